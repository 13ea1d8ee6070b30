-- What is kept of rows is what the definitions say of a table.
use Rattle.std.proofs.Common.{◌≡◌, ◌≢◌, ◌↔◌, ℕ, zero, suc, ◌+◌, ◌*◌, ◌%◌, ◌^◌, ◌<◌, ◌==◌, Bool, false, not, ◌||◌, cond, List, [], ◌∷◌, length, map, replicate, sum, get_or, inl, inr, sym, refl, ap, subst, ◌∙◌, arith, IsTrue}
use Rattle.std.specs.List.{list_any, range_with_len}
use Rattle.std.specs.Simd.Lanes.{zip2}
use Rattle.std.proofs.lemmas.Bool.{and_from, and_parts, not-true, or_parts, cases_Bool, cond-true, cond-false, eq-eqb, eqb-true, false≢true, true≢false}
use Rattle.std.proofs.lemmas.List.{get_or-set_other, get_or-set_same}
use Rattle.std.proofs.lemmas.Nat.{div-mul-add, mod-mul-add}
use Rattle.daq_table.specs.declared.head.Ends.{Ends}
use Rattle.daq_table.specs.Tables.{Frame, ends_at, rows_of}
use Rattle.query_model.specs.Answers.{Key}
use Rattle.query_model.specs.Groups.{AreInRanges, AreLegal, cell_of, joined, parts_of, counts_of}
use Rattle.query_model.specs.Knowledge.{ColumnKnowledge, IsKnowledge, Knowledge, is_legal, known_at, longer, longer_column, prefix_at, start, taken}
use Rattle.query_model.proofs.Groups.{joined_below}
use Rattle.row_groups.specs.declared.part.GroupPart.{GroupPart}
use Rattle.query_model.specs.Validity.{no_repeats}
use Rattle.row_groups.specs.Partition.{CellsTellKeys, IsKeyIn, OpeningStands, OthersLeaveCells, RefiningStands, are_legal, is_legal_cell, ranges_of_cell, ranges_of_prefixes, followed, is_group, part_under, raised, counts_of_parts, refined_cell, unread_part}
use Rattle.row_groups.proofs.Joining.{one_more, raised_here, raised_later}

-- ---- nothing is read

module _ (rows : ℕ) where
  abbrev none_of : List Ends → Knowledge
  none_of columns = map (λ (e : Ends). record { read = 0; prefixes = replicate rows 0 }) columns

  nothing_read : (columns : List Ends) (c : ℕ) → (known_at (none_of columns) c).read ≡ 0
  nothing_read [] c = refl
  nothing_read (x ∷ xs) zero = refl
  nothing_read (x ∷ xs) (suc c) = nothing_read xs c

  no_digit : (columns : List Ends) (c r : ℕ) → get_or (known_at (none_of columns) c).prefixes r 0 ≡ 0
  no_digit [] c r = refl
  no_digit (x ∷ xs) zero r = zeros rows r
    where
      zeros : (n k : ℕ) → get_or (replicate {A = ℕ} n 0) k 0 ≡ 0
      zeros zero k = refl
      zeros (suc n) zero = refl
      zeros (suc n) (suc k) = zeros n k
  no_digit (x ∷ xs) (suc c) r = no_digit xs c r

first_parts : (frame : Frame) (groups : List ℕ) → map (unread_part frame.columns) groups ≡ map (part_under frame (start frame)) groups
first_parts frame [] = refl
first_parts frame (g ∷ gs) =
    let with_read : ℕ → GroupPart = λ n. record { column = g; ends = ends_at frame g; read = n } in
    ap (λ n. with_read n ∷ map (unread_part frame.columns) gs) (sym (nothing_read frame.rows frame.columns g)) ∙ ap (λ l. part_under frame (start frame) g ∷ l) (first_parts frame gs)

first_cell : (frame : Frame) (groups : List ℕ) (r : ℕ) → cell_of (start frame) groups r ≡ 0
first_cell frame [] r = refl
first_cell frame (g ∷ gs) r =
    let d = 2 ^ sum (counts_of (start frame) gs) in
    ap (λ p. p * d + cell_of (start frame) gs r) (no_digit frame.rows frame.columns g r) ∙ ap (λ n. 0 * d + n) (first_cell frame gs r) ∙ omega arith

all_zero : (f : ℕ → ℕ) (a n : ℕ) → ((r : ℕ) → f r ≡ 0) → replicate n 0 ≡ map f (range_with_len a n)
all_zero f a zero h = refl
all_zero f a (suc n) h = ap (λ k. k ∷ replicate n 0) (sym (h a)) ∙ ap (λ l. f a ∷ l) (all_zero f (a + 1) n h)

pub opening_stands : OpeningStands
opening_stands frame groups = record {
  parts = first_parts frame groups;
  rows = all_zero (cell_of (start frame) groups) 0 frame.rows (first_cell frame groups);
}

-- ---- the prefixes of a row

-- the prefixes come back out of the cell
abbrev prefixes_at : Knowledge → List ℕ → ℕ → List ℕ
prefixes_at known cs r = map (λ c. prefix_at known c r) cs

parts_back : (frame : Frame) (known : Knowledge) (r : ℕ) (cs : List ℕ) → IsKnowledge frame known → r < frame.rows → parts_of (counts_of known cs) (cell_of known cs r) ≡ prefixes_at known cs r
parts_back frame known r [] k r_in = refl
parts_back frame known r (c ∷ cs) k r_in =
    let d = 2 ^ sum (counts_of known cs) in
    let p = prefix_at known c r in
    let j = cell_of known cs r in
    let below = joined_below frame known r cs k r_in in
    ap (λ n. n ∷ parts_of (counts_of known cs) ((p * d + j) % d)) (div-mul-add p d j below) ∙ ap (λ n. p ∷ parts_of (counts_of known cs) n) (mod-mul-add p d j below) ∙ ap (λ l. p ∷ l) (parts_back frame known r cs k r_in)

-- ---- one plane more

longer_read : (ps : List ℕ) (bits : List Bool) (r : ℕ) → r < length ps → r < length bits → get_or (longer ps bits) r 0 ≡ 2 * get_or ps r 0 + cond (get_or bits r false) 1 0
longer_read [] bits r h b = absurd (omega arith)
longer_read (p ∷ ps) [] r h b = absurd (omega arith)
longer_read (p ∷ ps) (bit ∷ bits) zero h b = refl
longer_read (p ∷ ps) (bit ∷ bits) (suc r) h b = longer_read ps bits r (omega arith) (omega arith)

-- rows from a on, by the bits from there on
each_row : (f : ℕ → Bool → ℕ) (g h : ℕ → ℕ) (all : List Bool) (a n : ℕ) (bits : List Bool) → length bits ≡ n → ((i : ℕ) → get_or bits i false ≡ get_or all (a + i) false) →
    ((r : ℕ) → r < a + n → f (g r) (get_or all r false) ≡ h r) → zip2 f (map g (range_with_len a n)) bits ≡ map h (range_with_len a n)
each_row f g h all a zero bits long from same = refl
each_row f g h all a (suc n) [] long from same = absurd (omega arith)
each_row f g h all a (suc n) (b ∷ bs) long from same =
    let first : b ≡ get_or all a false = (let e : a + 0 ≡ a = omega arith in from 0 ∙ ap (λ k. get_or all k false) e) in
    let rest = each_row f g h all (a + 1) n bs (omega arith) (λ i. (let e : a + suc i ≡ (a + 1) + i = omega arith in from (suc i) ∙ ap (λ k. get_or all k false) e)) (λ r below. same r (omega arith)) in
    ap (λ v. f (g a) v ∷ zip2 f (map g (range_with_len (a + 1) n)) bs) first ∙ ap (λ v. v ∷ zip2 f (map g (range_with_len (a + 1) n)) bs) (same a (omega arith)) ∙ ap (λ l. h a ∷ l) rest

reads_are : (frame : Frame) (known : Knowledge) (cs : List ℕ) → counts_of_parts (map (part_under frame known) cs) ≡ counts_of known cs
reads_are frame known [] = refl
reads_are frame known (c ∷ cs) = ap (λ l. (known_at known c).read ∷ l) (reads_are frame known cs)

module _ (frame : Frame) (known : Knowledge) (c : ℕ) (bits : List Bool) where
  abbrev next : Knowledge
  next = taken known c bits

  abbrev nothing : ColumnKnowledge
  nothing = record { read = 0; prefixes = [] }

  taken_elsewhere : (g : ℕ) → g ≢ c → known_at next g ≡ known_at known g
  taken_elsewhere g other = get_or-set_other known c g (longer_column (known_at known c) bits) nothing other

  abbrev part_by : ℕ → ColumnKnowledge → GroupPart
  part_by g w = record { column = g; ends = ends_at frame g; read = w.read }

  -- columns that it is none of
  none_later : (g : ℕ) (gs : List ℕ) → is_group (g ∷ gs) c ≡ false → (g ≢ c) × (is_group gs c ≡ false)
  none_later g gs h =
      let parts = or_parts (c == g) (is_group gs c) h in
      ((λ e. true≢false (sym (eq-eqb c g (sym e)) ∙ parts.0)), parts.1)

  alone_here : (g : ℕ) (gs : List ℕ) → IsTrue (no_repeats (g ∷ gs)) → IsTrue (g == c) → is_group gs c ≡ false
  alone_here g gs h t =
      let apart = and_parts (not (list_any (λ y. g == y) gs)) (no_repeats gs) h in
      ap (is_group gs) (sym (eqb-true g c t)) ∙ not-true (list_any (λ y. g == y) gs) apart.0

  once_later : (g : ℕ) (gs : List ℕ) → IsTrue (no_repeats (g ∷ gs)) → IsTrue (no_repeats gs)
  once_later g gs h = (and_parts (not (list_any (λ y. g == y) gs)) (no_repeats gs) h).1

  one_later : (g : ℕ) (gs : List ℕ) → IsTrue (is_group (g ∷ gs) c) → g ≢ c → IsTrue (is_group gs c)
  one_later g gs h apart =
      elim (cases_Bool (c == g)) [
        | inl t ↦ absurd (apart (sym (eqb-true c g t)))
        | inr f ↦ ap (λ b. b || is_group gs c) (sym f) ∙ h
      ]

  parts_elsewhere : (gs : List ℕ) → is_group gs c ≡ false → map (part_under frame known) gs ≡ map (part_under frame next) gs
  parts_elsewhere [] h = refl
  parts_elsewhere (g ∷ gs) h =
      let apart = none_later g gs h in
      ap (λ (w : ColumnKnowledge). part_by g w ∷ map (part_under frame known) gs) (sym (taken_elsewhere g apart.0)) ∙ ap (λ l. part_under frame next g ∷ l) (parts_elsewhere gs apart.1)

  prefixes_elsewhere : (r : ℕ) (gs : List ℕ) → is_group gs c ≡ false → prefixes_at known gs r ≡ prefixes_at next gs r
  prefixes_elsewhere r [] h = refl
  prefixes_elsewhere r (g ∷ gs) h =
      let apart = none_later g gs h in
      ap (λ (w : ColumnKnowledge). get_or w.prefixes r 0 ∷ prefixes_at known gs r) (sym (taken_elsewhere g apart.0)) ∙ ap (λ l. prefix_at next g r ∷ l) (prefixes_elsewhere r gs apart.1)

  counts_elsewhere : (gs : List ℕ) → is_group gs c ≡ false → counts_of known gs ≡ counts_of next gs
  counts_elsewhere [] h = refl
  counts_elsewhere (g ∷ gs) h =
      let apart = none_later g gs h in
      ap (λ (w : ColumnKnowledge). w.read ∷ counts_of known gs) (sym (taken_elsewhere g apart.0))
      ∙ ap (λ l. (known_at next g).read ∷ l) (counts_elsewhere gs apart.1)

  cell_elsewhere : (r : ℕ) (gs : List ℕ) → is_group gs c ≡ false → cell_of known gs r ≡ cell_of next gs r
  cell_elsewhere r [] h = refl
  cell_elsewhere r (g ∷ gs) h =
      let apart = none_later g gs h in
      ap (λ (w : ColumnKnowledge). get_or w.prefixes r 0 * 2 ^ sum (counts_of known gs) + cell_of known gs r) (sym (taken_elsewhere g apart.0))
      ∙ ap (λ n. prefix_at next g r * 2 ^ sum n + cell_of known gs r) (counts_elsewhere gs apart.1)
      ∙ ap (λ n. prefix_at next g r * 2 ^ sum (counts_of next gs) + n) (cell_elsewhere r gs apart.1)

  module _ (k : IsKnowledge frame known) (c_in : c < length frame.columns) (long : length bits ≡ frame.rows) where
    taken_here : known_at next c ≡ longer_column (known_at known c) bits
    taken_here = (let within : c < length known = subst (λ n. c < n) (sym k.columns) c_in in get_or-set_same known c (longer_column (known_at known c) bits) nothing within)

    parts_next : (gs : List ℕ) → IsTrue (no_repeats gs) → IsTrue (is_group gs c) → raised (map (part_under frame known) gs) c ≡ map (part_under frame next) gs
    parts_next [] h one = absurd (false≢true one)
    parts_next (g ∷ gs) h one =
        elim (cases_Bool (g == c)) [
          | inl t ↦
              (let e : g ≡ c = eqb-true g c t in
              let alone : is_group gs c ≡ false = alone_here g gs h t in
              raised_here (part_under frame known g) (map (part_under frame known) gs) c t
              ∙ ap (λ l. one_more (part_under frame known g) ∷ l) (parts_elsewhere gs alone)
              ∙ ap (λ (w : ColumnKnowledge). part_by g w ∷ map (part_under frame next) gs) (ap (λ n. longer_column (known_at known n) bits) e ∙ sym taken_here ∙ ap (known_at next) (sym e)))
          | inr f ↦
              (let apart : g ≢ c = λ e. true≢false (sym (eq-eqb g c e) ∙ f) in
              raised_later (part_under frame known g) (map (part_under frame known) gs) c f
              ∙ ap (λ (w : ColumnKnowledge). part_by g w ∷ raised (map (part_under frame known) gs) c) (sym (taken_elsewhere g apart))
              ∙ ap (λ l. part_under frame next g ∷ l) (parts_next gs (once_later g gs h) (one_later g gs one apart)))
        ]

    prefix_next : (r : ℕ) → r < frame.rows → 2 * prefix_at known c r + cond (get_or bits r false) 1 0 ≡ prefix_at next c r
    prefix_next r r_in =
        let within : r < length (known_at known c).prefixes = subst (λ n. r < n) (sym (k.rows c c_in)) r_in in
        let there : r < length bits = subst (λ n. r < n) (sym long) r_in in
        sym (longer_read (known_at known c).prefixes bits r within there) ∙ ap (λ (w : ColumnKnowledge). get_or w.prefixes r 0) (sym taken_here)

    prefixes_next : (r : ℕ) (gs : List ℕ) → r < frame.rows → IsTrue (no_repeats gs) → IsTrue (is_group gs c) → followed (map (part_under frame known) gs) c (get_or bits r false) (prefixes_at known gs r) ≡ prefixes_at next gs r
    prefixes_next r [] r_in h one = absurd (false≢true one)
    prefixes_next r (g ∷ gs) r_in h one =
        let bit = get_or bits r false in
        let ps = map (part_under frame known) gs in
        let here = (2 * prefix_at known g r + cond bit 1 0) ∷ prefixes_at known gs r in
        let later = prefix_at known g r ∷ followed ps c bit (prefixes_at known gs r) in
        elim (cases_Bool (g == c)) [
          | inl t ↦
              (let e : g ≡ c = eqb-true g c t in
              cond-true (g == c) here later t
              ∙ ap (λ n. n ∷ prefixes_at known gs r) (ap (λ n. 2 * prefix_at known n r + cond bit 1 0) e ∙ prefix_next r r_in ∙ ap (λ n. prefix_at next n r) (sym e))
              ∙ ap (λ l. prefix_at next g r ∷ l) (prefixes_elsewhere r gs (alone_here g gs h t)))
          | inr f ↦
              (let apart : g ≢ c = λ e. true≢false (sym (eq-eqb g c e) ∙ f) in
              cond-false (g == c) here later f
              ∙ ap (λ (w : ColumnKnowledge). get_or w.prefixes r 0 ∷ followed ps c bit (prefixes_at known gs r)) (sym (taken_elsewhere g apart))
              ∙ ap (λ l. prefix_at next g r ∷ l) (prefixes_next r gs r_in (once_later g gs h) (one_later g gs one apart)))
        ]

    cell_next : (r : ℕ) (gs : List ℕ) → r < frame.rows → IsTrue (no_repeats gs) → IsTrue (is_group gs c) → refined_cell (map (part_under frame known) gs) c (cell_of known gs r) (get_or bits r false) ≡ cell_of next gs r
    cell_next r gs r_in h one =
        let ps = map (part_under frame known) gs in
        let bit = get_or bits r false in
        ap (λ ks. joined (counts_of_parts (raised ps c)) (followed ps c bit (parts_of ks (cell_of known gs r)))) (reads_are frame known gs)
        ∙ ap (λ qs. joined (counts_of_parts (raised ps c)) (followed ps c bit qs)) (parts_back frame known r gs k r_in)
        ∙ ap (joined (counts_of_parts (raised ps c))) (prefixes_next r gs r_in h one)
        ∙ ap (λ qs. joined (counts_of_parts qs) (prefixes_at next gs r)) (parts_next gs h one)
        ∙ ap (λ ks. joined ks (prefixes_at next gs r)) (reads_are frame next gs)

pub refining_stands : RefiningStands
refining_stands frame known groups cells c bits k are c_in long once one =
    let ps = map (part_under frame known) groups in
    let step = cell_next frame known c bits k c_in long in
    record {
      parts = ap (λ qs. raised qs c) are.parts ∙ parts_next frame known c bits k c_in long groups once one;
      rows = ap (λ qs. zip2 (refined_cell qs c) cells.cells bits) are.parts ∙ ap (λ l. zip2 (refined_cell ps c) l bits) are.rows
          ∙ each_row (refined_cell ps c) (cell_of known groups) (cell_of (taken known c bits) groups) bits 0 frame.rows bits long (λ i. (let e : 0 + i ≡ i = omega arith in ap (λ n. get_or bits n false) (sym e))) (λ r below. step r groups (omega arith) once one);
    }

same_cells : (f g : ℕ → ℕ) (rs : List ℕ) → ((r : ℕ) → f r ≡ g r) → map f rs ≡ map g rs
same_cells f g [] h = refl
same_cells f g (r ∷ rs) h = ap (λ n. n ∷ map f rs) (h r) ∙ ap (λ l. g r ∷ l) (same_cells f g rs h)

pub others_leave_cells : OthersLeaveCells
others_leave_cells frame known groups cells c bits are none = record {
  parts = are.parts ∙ parts_elsewhere frame known c bits groups none;
  rows = are.rows ∙ same_cells (cell_of known groups) (cell_of (taken known c bits) groups) (rows_of frame) (λ r. cell_elsewhere frame known c bits r groups none);
}

-- ---- keys

legal_under : (frame : Frame) (known : Knowledge) (gs qs : List ℕ) → IsTrue (are_legal (map (part_under frame known) gs) qs) ↔ AreLegal frame known gs qs
legal_under frame known [] [] = ((λ _. tt), (λ _. refl))
legal_under frame known [] (q ∷ qs) = ((λ h. absurd (false≢true h)), (λ h. absurd h))
legal_under frame known (g ∷ gs) [] = ((λ h. absurd (false≢true h)), (λ h. absurd h))
legal_under frame known (g ∷ gs) (q ∷ qs) =
    let here = is_legal (ends_at frame g) (known_at known g).read q in
    let later = are_legal (map (part_under frame known) gs) qs in
    let rest = legal_under frame known gs qs in
    ((λ h. (let parts = and_parts here later h in (parts.0, rest.0 parts.1))), (λ h. and_from here later h.0 (rest.1 h.1)))

-- there is a range for each group column
keys_under : (frame : Frame) (known : Knowledge) (gs : List ℕ) (cell : ℕ) (key : Key) →
    let qs = parts_of (counts_of known gs) cell in
    IsKeyIn (ranges_of_prefixes (map (part_under frame known) gs) qs) key ↔ AreInRanges frame known gs qs key
keys_under frame known [] cell [] = ((λ _. tt), (λ _. tt))
keys_under frame known [] cell (x ∷ key) = ((λ h. h), (λ h. h))
keys_under frame known (g ∷ gs) cell [] = ((λ h. h), (λ h. h))
keys_under frame known (g ∷ gs) cell (x ∷ key) =
    let rest = keys_under frame known gs (cell % 2 ^ sum (counts_of known gs)) key in
    ((λ h. (h.0, rest.0 h.1)), (λ h. (h.0, rest.1 h.1)))

pub cells_tell_keys : CellsTellKeys
cells_tell_keys frame known groups cells are =
    let ps = map (part_under frame known) groups in
    let same : (cell : ℕ) → parts_of (counts_of_parts ps) cell ≡ parts_of (counts_of known groups) cell = λ cell. ap (λ ks. parts_of ks cell) (reads_are frame known groups) in
    record {
      count = ap (λ qs. 2 ^ sum (counts_of_parts qs)) are.parts ∙ ap (λ ks. 2 ^ sum ks) (reads_are frame known groups);
      legal = λ cell. subst (λ qs. IsTrue (is_legal_cell qs cell) ↔ AreLegal frame known groups (parts_of (counts_of known groups) cell)) (sym are.parts)
          (subst (λ qs. IsTrue (are_legal ps qs) ↔ AreLegal frame known groups (parts_of (counts_of known groups) cell)) (sym (same cell)) (legal_under frame known groups (parts_of (counts_of known groups) cell)));
      ranges = λ cell key. subst (λ qs. IsKeyIn (ranges_of_cell qs cell) key ↔ AreInRanges frame known groups (parts_of (counts_of known groups) cell) key) (sym are.parts)
          (subst (λ qs. IsKeyIn (ranges_of_prefixes ps qs) key ↔ AreInRanges frame known groups (parts_of (counts_of known groups) cell) key) (sym (same cell)) (keys_under frame known groups cell key));
    }
