-- The planes of a table tell its cells.
use Rattle.std.proofs.Common.{◌≡◌, ℕ, zero, suc, ◌+◌, ◌-◌, ◌*◌, ◌/◌, ◌^◌, ◌<◌, ◌≤◌, cond, Some, None, List, [], ◌∷◌, ◌++◌, length, map, get_or, refl, sym, ap, ◌∙◌, arith, length-append}
use Rattle.std.specs.List.{flat_map, range_with_len}
use Rattle.std.proofs.lemmas.List.{get_or_default, length-map, same_lists}
use Rattle.std.proofs.lemmas.Nat.{pow_pos}
use Rattle.daq_table.specs.declared.head.Ends.{Ends}
use Rattle.daq_table.specs.declared.table_head.Head.{Head}
use Rattle.daq_table.specs.Tables.{Cell, Cells, IsCell, IsTable, code, ends_at, ends_of, frame_of, planes, width}
use Rattle.plane_kernels.specs.Bytes.{bytes_of_rows}
use Rattle.plane_kernels.proofs.BytesLaws.{of_one_list}
use Rattle.query_model.specs.Knowledge.{bit_at, longer, plane_of, prefix_of}
use Rattle.query_model.proofs.Blocks.{none_read, nullable_column}
use Rattle.query_model.proofs.Planes.{next_digit}
use Rattle.plane_file.specs.Format.{column_planes, head_bytes, header_bytes, heads_bytes, plane_size, planes_bytes}
use Rattle.plane_file.specs.Laws.{FilesTellCells}
use Rattle.plane_file.proofs.Lengths.{length-bytes_of_rows, length-column_planes}

-- ---- from digits to cells

-- the same first digits make the same prefix
same_prefix : (ends : Ends) (x y : Cell) → IsCell ends x → IsCell ends y → (read : ℕ) → read ≤ planes ends → ((j : ℕ) → j < read → bit_at ends j x ≡ bit_at ends j y) → prefix_of ends read x ≡ prefix_of ends read y
same_prefix ends x y hx hy zero h bits = none_read ends x hx ∙ sym (none_read ends y hy)
same_prefix ends x y hx hy (suc read) h bits =
    let lt : read < planes ends = omega (arith, h) in
    let more : read + 1 ≡ suc read = omega arith in
    let before = same_prefix ends x y hx hy read (omega (arith, h)) (λ j less. bits j (omega (arith, less))) in
    ap (λ n. prefix_of ends n x) (sym more) ∙ sym (next_digit ends read x lt) ∙ ap (λ p. 2 * p + cond (bit_at ends read x) 1 0) before
    ∙ ap (λ b. 2 * prefix_of ends read y + cond b 1 0) (bits read (omega arith)) ∙ next_digit ends read y lt ∙ ap (λ n. prefix_of ends n y) more

-- all digits are the code
pub whole_code : (ends : Ends) (cell : Cell) → prefix_of ends (planes ends) cell ≡ code ends cell
whole_code ends cell =
    let none : planes ends - planes ends ≡ 0 = omega arith in
    ap (λ k. code ends cell / 2 ^ k) none ∙ omega arith

-- a number's code is not that of null
null_or_number : (ends : Ends) (u : ℕ) → IsCell ends None → code ends None ≡ code ends (Some u) → None ≡ Some u
null_or_number ends u nullable e =
    let first = (nullable_column ends nullable).1 in
    let some = pow_pos (width ends) in
    absurd (omega (arith, e, first, some))

same_cell : (ends : Ends) (x y : Cell) → IsCell ends x → IsCell ends y → code ends x ≡ code ends y → x ≡ y
same_cell ends None None hx hy e = refl
same_cell ends None (Some v) hx hy e = null_or_number ends v hx e
same_cell ends (Some u) None hx hy e = sym (null_or_number ends u hy (sym e))
same_cell ends (Some u) (Some v) hx hy e = ap Some (omega (arith, e))

cell_told : (ends : Ends) (x y : Cell) → IsCell ends x → IsCell ends y → ((j : ℕ) → j < planes ends → bit_at ends j x ≡ bit_at ends j y) → x ≡ y
cell_told ends x y hx hy bits =
    same_cell ends x y hx hy (sym (whole_code ends x) ∙ same_prefix ends x y hx hy (planes ends) (omega arith) bits ∙ whole_code ends y)

cons_parts : {X : Type 0} (a b : X) (xs ys : List X) → a ∷ xs ≡ b ∷ ys → (a ≡ b) × (xs ≡ ys)
cons_parts a b xs ys e =
    let first : a ≡ b = cc in
    let rest : xs ≡ ys = cc in
    (first, rest)

-- the same first planes make the same prefixes
pub same_prefixes : (ends : Ends) (xs ys : List Cell) (read : ℕ) → length xs ≡ length ys → ((r : ℕ) → r < length xs → IsCell ends (get_or xs r (Some 0))) →
    ((r : ℕ) → r < length ys → IsCell ends (get_or ys r (Some 0))) → read ≤ planes ends → ((j : ℕ) → j < read → map (bit_at ends j) xs ≡ map (bit_at ends j) ys) → map (prefix_of ends read) xs ≡ map (prefix_of ends read) ys
same_prefixes ends [] [] read long hx hy few bits = refl
same_prefixes ends [] (y ∷ ys) read long hx hy few bits = absurd (omega (arith, long))
same_prefixes ends (x ∷ xs) [] read long hx hy few bits = absurd (omega (arith, long))
same_prefixes ends (x ∷ xs) (y ∷ ys) read long hx hy few bits =
    let first = same_prefix ends x y (hx 0 (omega arith)) (hy 0 (omega arith)) read few (λ j lt. (cons_parts _ _ _ _ (bits j lt)).0) in
    let rest = same_prefixes ends xs ys read (omega (arith, long)) (λ r lt. hx (suc r) (omega (arith, lt))) (λ r lt. hy (suc r) (omega (arith, lt))) few (λ j lt. (cons_parts _ _ _ _ (bits j lt)).1) in
    ap (λ p. p ∷ map (prefix_of ends read) xs) first ∙ ap (λ l. prefix_of ends read y ∷ l) rest

-- a plane is the next digit of each prefix
pub longer-map : (ends : Ends) (read : ℕ) (cells : List Cell) → read < planes ends → longer (map (prefix_of ends read) cells) (map (bit_at ends read) cells) ≡ map (prefix_of ends (read + 1)) cells
longer-map ends read [] h = refl
longer-map ends read (cell ∷ cells) h =
    ap (λ p. p ∷ longer (map (prefix_of ends read) cells) (map (bit_at ends read) cells)) (next_digit ends read cell h) ∙ ap (λ ps. prefix_of ends (read + 1) cell ∷ ps) (longer-map ends read cells h)

column_told : (ends : Ends) (xs ys : List Cell) → length xs ≡ length ys → ((r : ℕ) → r < length xs → IsCell ends (get_or xs r (Some 0))) →
    ((r : ℕ) → r < length ys → IsCell ends (get_or ys r (Some 0))) → ((j : ℕ) → j < planes ends → map (bit_at ends j) xs ≡ map (bit_at ends j) ys) → xs ≡ ys
column_told ends [] [] long hx hy bits = refl
column_told ends [] (y ∷ ys) long hx hy bits = absurd (omega (arith, long))
column_told ends (x ∷ xs) [] long hx hy bits = absurd (omega (arith, long))
column_told ends (x ∷ xs) (y ∷ ys) long hx hy bits =
    let first = cell_told ends x y (hx 0 (omega arith)) (hy 0 (omega arith)) (λ j lt. (cons_parts _ _ _ _ (bits j lt)).0) in
    let rest = column_told ends xs ys (omega (arith, long)) (λ r lt. hx (suc r) (omega (arith, lt))) (λ r lt. hy (suc r) (omega (arith, lt))) (λ j lt. (cons_parts _ _ _ _ (bits j lt)).1) in
    ap (λ c. c ∷ xs) first ∙ ap (λ l. y ∷ l) rest

-- ---- from bytes to planes

split_same : (xs ys us vs : List ℕ) → length xs ≡ length ys → xs ++ us ≡ ys ++ vs → (xs ≡ ys) × (us ≡ vs)
split_same [] [] us vs long e = (refl, e)
split_same [] (y ∷ ys) us vs long e = absurd (omega (arith, long))
split_same (x ∷ xs) [] us vs long e = absurd (omega (arith, long))
split_same (x ∷ xs) (y ∷ ys) us vs long e =
    let parts = cons_parts x y (xs ++ us) (ys ++ vs) e in
    let rest = split_same xs ys us vs (omega (arith, long)) parts.1 in
    (ap (λ h. h ∷ xs) parts.0 ∙ ap (λ l. y ∷ l) rest.0, rest.1)

shift : (a k : ℕ) → a + 1 + k ≡ a + suc k
shift a k = omega arith

-- the first of some pieces, and those behind it
first_same : (f g : ℕ → List ℕ) (a n : ℕ) → ((j : ℕ) → j < suc n → length (f (a + j)) ≡ length (g (a + j))) → flat_map f (range_with_len a (suc n)) ≡ flat_map g (range_with_len a (suc n)) →
    (f a ≡ g a) × (flat_map f (range_with_len (a + 1) n) ≡ flat_map g (range_with_len (a + 1) n))
first_same f g a n long e =
    let here : a + 0 ≡ a = omega arith in
    split_same (f a) (g a) (flat_map f (range_with_len (a + 1) n)) (flat_map g (range_with_len (a + 1) n)) (ap (λ k. length (f k)) (sym here) ∙ long 0 (omega arith) ∙ ap (λ k. length (g k)) here) e

-- pieces of the same lengths are the same where their texts are
pieces_same : (f g : ℕ → List ℕ) (a n : ℕ) → ((j : ℕ) → j < n → length (f (a + j)) ≡ length (g (a + j))) → flat_map f (range_with_len a n) ≡ flat_map g (range_with_len a n) →
    (j : ℕ) → j < n → f (a + j) ≡ g (a + j)
pieces_same f g a zero long e j h = absurd (omega (arith, h))
pieces_same f g a (suc n) long e zero h =
    let here : a + 0 ≡ a = omega arith in
    ap f here ∙ (first_same f g a n long e).0 ∙ ap g (sym here)
pieces_same f g a (suc n) long e (suc j) h =
    ap f (sym (shift a j))
    ∙ pieces_same f g (a + 1) n (λ k lt. ap (λ m. length (f m)) (shift a k) ∙ long (suc k) (omega (arith, lt)) ∙ ap (λ m. length (g m)) (sym (shift a k))) (first_same f g a n long e).1 j (omega (arith, h))
    ∙ ap g (shift a j)

-- the same from the first number on
all_same : (f g : ℕ → List ℕ) (n : ℕ) → ((j : ℕ) → j < n → length (f j) ≡ length (g j)) → flat_map f (range_with_len 0 n) ≡ flat_map g (range_with_len 0 n) → (j : ℕ) → j < n → f j ≡ g j
all_same f g n long e j h =
    ap f (sym (from_zero j)) ∙ pieces_same f g 0 n (λ k lt. ap (λ m. length (f m)) (from_zero k) ∙ long k lt ∙ ap (λ m. length (g m)) (sym (from_zero k))) e j h ∙ ap g (from_zero j)
  where
    from_zero : (k : ℕ) → 0 + k ≡ k
    from_zero k = omega arith

-- ---- tables

module _ (head : Head) (cells others : Cells) (is : IsTable (frame_of head) cells) (is' : IsTable (frame_of head) others) where
  declared_in : (c : ℕ) → c < length head.columns → c < length (frame_of head).columns
  declared_in c lt = omega (arith, lt, length-map head.columns ends_of)

  as_long : (c j : ℕ) → c < length head.columns → length (plane_of (frame_of head) cells c j) ≡ length (plane_of (frame_of head) others c j)
  as_long c j lt =
      let bit = bit_at (ends_at (frame_of head) c) j in
      length-map (get_or cells c []) bit ∙ is.rows c (declared_in c lt) ∙ sym (is'.rows c (declared_in c lt)) ∙ sym (length-map (get_or others c []) bit)

  same_column : (c : ℕ) → c < length head.columns → column_planes (frame_of head) cells c ≡ column_planes (frame_of head) others c → get_or cells c [] ≡ get_or others c []
  same_column c lt e =
      let frame = frame_of head in
      let ends = ends_at frame c in
      let there = declared_in c lt in
      column_told ends (get_or cells c []) (get_or others c []) (is.rows c there ∙ sym (is'.rows c there))
      (λ r h. is.within c r there (omega (arith, h, is.rows c there))) (λ r h. is'.within c r there (omega (arith, h, is'.rows c there)))
      (λ j h. sym (of_one_list (plane_of frame cells c j) (plane_of frame others c j) (sym (as_long c j lt))
      (sym (all_same (λ k. bytes_of_rows (plane_of frame cells c k)) (λ k. bytes_of_rows (plane_of frame others c k)) (planes ends)
      (λ k _. length-bytes_of_rows (plane_of frame cells c k) ∙ ap plane_size (as_long c k lt) ∙ sym (length-bytes_of_rows (plane_of frame others c k))) e j h))))

  same_table : planes_bytes (record { head = head; cells = cells }) ≡ planes_bytes (record { head = head; cells = others }) → cells ≡ others
  same_table e =
      let frame = frame_of head in
      let count = length-map head.columns ends_of in
      same_lists cells others (is.columns ∙ sym is'.columns) (λ c d lt.
      let lt' : c < length head.columns = omega (arith, lt, is.columns, count) in
      get_or_default cells c d [] lt ∙ same_column c lt' (all_same (column_planes frame cells) (column_planes frame others) (length head.columns)
      (λ k h. length-column_planes frame cells k (is.rows k (declared_in k h)) ∙ sym (length-column_planes frame others k (is'.rows k (declared_in k h)))) e c lt')
      ∙ sym (get_or_default others c d [] (omega (arith, lt, is.columns, is'.columns))))

pub files_tell_cells : FilesTellCells
files_tell_cells version other head cells others is is' e =
    let heads = heads_bytes head.columns in
    let long : length (head_bytes version head) ≡ length (head_bytes other head) =
    length-append (header_bytes version head) heads ∙ sym (length-append (header_bytes other head) heads) in
    same_table head cells others is is' (split_same (head_bytes version head) (head_bytes other head) (planes_bytes (record { head = head; cells = cells })) (planes_bytes (record { head = head; cells = others })) long e).1
