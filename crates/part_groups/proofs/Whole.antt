-- The combined report is one.
use Rattle.std.proofs.Common.{◌≡◌, ◌≤ℤ◌, Bool, true, false, ◌||◌, ◌&&◌, int_le, IsTrue, All, ◌++◌, ℕ, ℤ, suc, ◌+◌, ◌<◌, List, [], ◌∷◌, length, map, refl, arith, sym, ap, ◌∙◌, subst, Option, Some, None}
use Rattle.std.specs.List.{range_with_len}
use Rattle.std.proofs.Math.Bridge.{le_prop}
use Rattle.std.proofs.lemmas.Bool.{and_from, and_parts, false≢true, true_from_ne_false}
use Rattle.std.proofs.lemmas.Int.{ints}
use Rattle.std.proofs.lemmas.List.{length-map}
use Rattle.std.specs.Cmp.Lexicographic.{slice_cmp}
use Rattle.std.specs.Ordering.{is_le, nat_cmp}
use Rattle.report_text.specs.Keys.{IsShownPart, IsShownSpan}
use Rattle.report_text.specs.declared.keys.ShownEnds.{ShownEnds}
use Rattle.report_text.specs.declared.keys.ShownEnds.TheVariants as shown
use Rattle.report_text.specs.declared.keys.ShownSpan.{ShownSpan}
use Rattle.shard_groups.specs.Keys.{ends_meet, meets}
use Rattle.interval_calc.specs.declared.Fraction as code_fraction_type
use Rattle.query_model.specs.declared.bounds.Nullity.{Nullity}
use Rattle.query_model.specs.Bounds.{AverageBound, fractions_of}
use Rattle.query_model.specs.declared.bounds.AverageBound as code_average_type
use Rattle.query_model.specs.declared.bounds.Bound.{Bound}
use Rattle.report_text.specs.declared.answers.Answer.{Answer}
use Rattle.report_text.specs.declared.answers.Answer.TheVariants as report
use Rattle.shard_groups.specs.Found.{CombinedIsFound, HaveKeys, Line, combined_lines, line_of}
use Rattle.shard_groups.specs.Groups.{Average, IsCombined, Said, Value, all_keys, keys_in, said_of}
use Rattle.shard_groups.specs.declared.cells.Cell.{Cell}
use Rattle.shard_groups.specs.declared.cells.ItemBound.{ItemBound}
use Rattle.shard_groups.specs.declared.cells.ItemBound.TheVariants as code
use Rattle.shard_groups.specs.declared.keys.Span.{Span}
use Rattle.part_groups.specs.Cells.{Told, keys_of, said_by, span_of, told, told_by, values_in}
use Rattle.part_groups.specs.Forms.{AreSharedForms, form_at, shared_form, told_over}
use Rattle.part_groups.specs.Shown.{group_in}
use Rattle.part_groups.specs.Texts.{texts_over}
use Rattle.part_groups.specs.Whole.{AreKeyed, CombinedIsWhole, IsKeyed, cell_by, cells_by, code_average, forms_over, has_key, has_value, item_by, told_line}
use Rattle.part_groups.specs.declared.forms.EndsForm.{EndsForm}
use Rattle.part_groups.specs.declared.forms.Places.{Places}
use Rattle.part_groups.specs.declared.forms.Places.TheVariants.{Columns, Items}
use Rattle.part_groups.specs.declared.group.Group.{Group}

-- ---- what is told says which cell it is

-- the bound of what is said, or that of an average
abbrev bound_in : Bound → Said → Bound
bound_in other (Value bound) = bound
bound_in other (Average bound) = other

abbrev average_in : AverageBound → Said → AverageBound
average_in other (Value bound) = other
average_in other (Average bound) = bound

abbrev is_value : Said → ℕ
is_value (Value bound) = 0
is_value (Average bound) = 1

same_fraction : (a b : code_fraction_type.Fraction) → a.num ≡ b.num → a.den ≡ b.den → a ≡ b
same_fraction a b n d =
    by a.num a.den b.num b.den a.divisible b.divisible n d
  where
    by : (x : ℤ) (k : ℕ) (y : ℤ) (m : ℕ) (p : 0 < k) (q : 0 < m) → x ≡ y → k ≡ m →
        ◌≡◌ {A = code_fraction_type.Fraction} (record { num = x; den = k; divisible = p }) (record { num = y; den = m; divisible = q })
    by x k y m p q e f =
        subst (λ (z : ℤ). ◌≡◌ {A = code_fraction_type.Fraction} (record { num = x; den = k; divisible = p }) (record { num = z; den = m; divisible = q })) e
        (subst (λ (n : ℕ). (r : 0 < n) → ◌≡◌ {A = code_fraction_type.Fraction} (record { num = x; den = k; divisible = p }) (record { num = x; den = n; divisible = r })) f
        (λ r. ap (λ (s : 0 < k). record { num = x; den = k; divisible = s }) (le_prop p r)) q)

same_average : (a b : code_average_type.AverageBound) → fractions_of a ≡ fractions_of b → a ≡ b
same_average a b e =
    let n : a.null ≡ b.null = ap (λ (x : AverageBound). x.null) e in
    let p : a.lo.num ≡ b.lo.num = ap (λ (x : AverageBound). x.lo.num) e in
    let q : a.lo.den ≡ b.lo.den = ap (λ (x : AverageBound). x.lo.den) e in
    let r : a.hi.num ≡ b.hi.num = ap (λ (x : AverageBound). x.hi.num) e in
    let s : a.hi.den ≡ b.hi.den = ap (λ (x : AverageBound). x.hi.den) e in
    ap (λ (v : Nullity). record { null = v; lo = a.lo; hi = a.hi }) n
    ∙ ap (λ (f : code_fraction_type.Fraction). record { null = b.null; lo = f; hi = a.hi }) (same_fraction a.lo b.lo p q)
    ∙ ap (λ (f : code_fraction_type.Fraction). record { null = b.null; lo = b.lo; hi = f }) (same_fraction a.hi b.hi r s)

same_item : (item : ItemBound) (answer : Answer) → said_of item ≡ said_by answer → item ≡ item_by answer
same_item (code.Value bound) (report.Value shown) e = ap (λ b. code.Value b) (ap (bound_in bound) e)
same_item (code.Value bound) (report.Average shown) e = absurd (let n : 0 ≡ 1 = ap is_value e in omega (arith, n))
same_item (code.Average bound) (report.Value shown) e = absurd (let n : 1 ≡ 0 = ap is_value e in omega (arith, n))
same_item (code.Average bound) (report.Average shown) e =
    ap (λ b. code.Average b) (same_average bound (code_average shown) (ap (average_in (fractions_of bound)) e))

abbrev first_said : Said → List Said → Said
first_said other [] = other
first_said other (said ∷ saids) = said

abbrev rest_of : {X : Type 0} → List X → List X
rest_of [] = []
rest_of (x ∷ xs) = xs

same_items : (items : List ItemBound) (answers : List Answer) → map said_of items ≡ map said_by answers → items ≡ map item_by answers
same_items [] [] e = refl
same_items [] (answer ∷ answers) e = absurd (let n = ap length e in omega (arith, n))
same_items (item ∷ items) [] e = absurd (let n = ap length e in omega (arith, n))
same_items (item ∷ items) (answer ∷ answers) e =
    ap (λ (i : ItemBound). i ∷ items) (same_item item answer (ap (first_said (said_of item)) e))
    ∙ ap (λ (is : List ItemBound). item_by answer ∷ is) (same_items items answers (ap rest_of e))

same_cell : (cell : Cell) (group : Group) → told cell ≡ told_by group → cell ≡ cell_by group
same_cell cell group e =
    let k = ap (λ (t : Told). t.keys) e in
    let p = ap (λ (t : Told). t.present) e in
    let i = same_items cell.items group.answers (ap (λ (t : Told). t.items) e) in
    rw (sym k, sym p, sym i) refl

abbrev first_told : Told → List Told → Told
first_told other [] = other
first_told other (t ∷ ts) = t

same_cells : (cells : List Cell) (groups : List Group) → map told cells ≡ map told_by groups → cells ≡ map cell_by groups
same_cells [] [] e = refl
same_cells [] (group ∷ groups) e = absurd (let n = ap length e in omega (arith, n))
same_cells (cell ∷ cells) [] e = absurd (let n = ap length e in omega (arith, n))
same_cells (cell ∷ cells) (group ∷ groups) e =
    ap (λ (c : Cell). c ∷ cells) (same_cell cell group (ap (first_told (told cell)) e))
    ∙ ap (λ (cs : List Cell). cell_by group ∷ cs) (same_cells cells groups (ap rest_of e))

abbrev first_list : List Told → List (List Told) → List Told
first_list other [] = other
first_list other (t ∷ ts) = t

pub same_shards : (shards : List (List Cell)) (parts : List (List Group)) → map (map told) shards ≡ map (map told_by) parts → shards ≡ cells_by parts
same_shards [] [] e = refl
same_shards [] (part ∷ parts) e = absurd (let n = ap length e in omega (arith, n))
same_shards (shard ∷ shards) [] e = absurd (let n = ap length e in omega (arith, n))
same_shards (shard ∷ shards) (part ∷ parts) e =
    ap (λ (cs : List Cell). cs ∷ shards) (same_cells shard part (ap (first_list (map told shard)) e))
    ∙ ap (λ (ss : List (List Cell)). map cell_by part ∷ ss) (same_shards shards parts (ap rest_of e))

-- ---- the forms

same_forms : (f : ℕ → Option EndsForm) (from : ℕ) (forms : List (Option EndsForm)) →
    ((n : ℕ) → n < length forms → form_at n forms ≡ f (from + n)) → forms ≡ map f (range_with_len from (length forms))
same_forms f from [] h = refl
same_forms f from (form ∷ forms) h =
    let first : form ≡ f from = h 0 (omega arith) ∙ ap f (let e : from + 0 ≡ from = omega arith in e) in
    let rest = same_forms f (from + 1) forms
    (λ n below. h (suc n) (omega (arith, below)) ∙ ap f (let e : from + suc n ≡ (from + 1) + n = omega arith in e)) in
    ap (λ (o : Option EndsForm). o ∷ forms) first ∙ ap (λ (os : List (Option EndsForm)). f from ∷ os) rest

shared_forms : (places : Places) (count : ℕ) (parts : List (List Group)) (forms : List (Option EndsForm)) → AreSharedForms places count parts forms →
    forms ≡ forms_over places count parts
shared_forms places count parts forms h =
    same_forms (λ n. shared_form (told_over places n parts)) 0 forms
    (λ n below. h.each n (omega (arith, below, h.all)) ∙ ap (λ m. shared_form (told_over places m parts)) (let e : n ≡ 0 + n = omega arith in e))
    ∙ ap (λ n. map (λ number. shared_form (told_over places number parts)) (range_with_len 0 n)) h.all

-- ---- the keys

key_of_values : (low high : ℤ) → low ≤ℤ high → IsTrue (int_le low high)
key_of_values low high h = true_from_ne_false (int_le low high) (λ f. omega (arith, ints))

-- what a part of a key allows, it allows in common with itself
meets_by : (null : Bool) (ends : Option ShownEnds) → IsShownPart null ends → IsTrue (null || has_value ends) →
    IsTrue ((null && null) || ends_meet (values_in ends) (values_in ends))
meets_by true ends h t = refl
meets_by false None h t = absurd h
meets_by false (Some (shown.Values ends)) h t =
    and_from (int_le ends.low ends.high) (int_le ends.low ends.high) (key_of_values ends.low ends.high h.ordered) (key_of_values ends.low ends.high h.ordered)
meets_by false (Some (shown.Texts ends)) h t =
    and_from (is_le (slice_cmp nat_cmp ends.low ends.high)) (is_le (slice_cmp nat_cmp ends.low ends.high)) h h
meets_by false (Some shown.NoText) h t = absurd (false≢true t)

meet_themselves : (spans : List ShownSpan) → All IsShownSpan spans → IsTrue (has_key spans) → IsTrue (meets (keys_of spans) (keys_of spans))
meet_themselves [] h t = refl
meet_themselves (span ∷ spans) h t =
    let e = and_parts (span.null || has_value span.ends) (has_key spans) t in
    and_from ((span.null && span.null) || ends_meet (values_in span.ends) (values_in span.ends)) (meets (keys_of spans) (keys_of spans))
    (meets_by span.null span.ends (h 0 span (omega arith)) e.0) (meet_themselves spans (λ k d below. h (suc k) d (omega (arith, below))) e.1)

keys_of_part : (count : ℕ) (groups : List Group) (others : List (List Span)) → All (IsKeyed count) groups → HaveKeys count others →
    HaveKeys count (keys_in (map cell_by groups) ++ others)
keys_of_part count [] others h rest = rest
keys_of_part count (group ∷ groups) others h rest =
    let own = h 0 group (omega arith) in (
      length-map group.line.keys span_of ∙ own.columns,
      meet_themselves group.line.keys own.shown.each own.key,
      keys_of_part count groups others (λ k d below. h (suc k) d (omega (arith, below))) rest,
    )

pub have_keys : (count : ℕ) (parts : List (List Group)) → AreKeyed count parts → HaveKeys count (all_keys (cells_by parts))
have_keys count [] h = tt
have_keys count (part ∷ parts) h =
    keys_of_part count part (all_keys (cells_by parts)) (h 0 part (omega arith)) (have_keys count parts (λ k d below. h (suc k) d (omega (arith, below))))

-- ---- the groups

map_through : (f : Told → Group) (lines : List Cell) → map (λ line. f (told line)) lines ≡ map (λ line. f (told_line line)) (map line_of lines)
map_through f [] = refl
map_through f (line ∷ lines) = ap (λ (gs : List Group). f (told line) ∷ gs) (map_through f lines)

pub combined_is_whole : CombinedIsFound → CombinedIsWhole
combined_is_whole is_found count kinds parts groups keyed is =
    let keys = have_keys count parts keyed in
    let columns = shared_forms Columns count parts is.columns is.forms.columns_shared in
    let items = shared_forms Items (length kinds) parts is.items is.forms.items_shared in
    let shards = same_shards is.are_lines.cells parts is.are_lines.tell in
    let combined : IsCombined kinds (cells_by parts) is.lines = subst (λ (ss : List (List Cell)). IsCombined kinds ss is.lines) shards is.are_lines.combined in
    let found : map line_of is.lines ≡ combined_lines kinds (cells_by parts) = is_found count kinds (cells_by parts) is.lines keys combined in
    is.shown
    ∙ map_through (group_in is.columns is.items (texts_over kinds parts)) is.lines
    ∙ ap (λ (ls : List Line). map (λ line. group_in is.columns is.items (texts_over kinds parts) (told_line line)) ls) found
    ∙ ap (λ (cs : List (Option EndsForm)). map (λ line. group_in cs is.items (texts_over kinds parts) (told_line line)) (combined_lines kinds (cells_by parts))) columns
    ∙ ap (λ (os : List (Option EndsForm)). map (λ line. group_in (forms_over Columns count parts) os (texts_over kinds parts) (told_line line)) (combined_lines kinds (cells_by parts))) items
