-- The definitions, computed on a table of three rows with nulls.
use Rattle.std.specs.Prelude.{◌≡◌, ℕ, zero, suc, ℤ, pos, true, false, Bool, List, [], ◌∷◌, map}
use Rattle.std.proofs.Common.{refl, Some, None, Option}
use Rattle.daq_table.specs.declared.head.Ends.{Ends}
use Rattle.daq_table.specs.Tables.{Frame, Cells, binary_digits, cells_from, code, planes}
use Rattle.query_model.specs.Queries.{Column, Literal, Add, Condition, All, Single, Both, Either, Negation, Aggregate, Query}
use Rattle.query_model.specs.declared.query.Comparison.TheVariants.{Eq, Ne, Gt}
use Rattle.query_model.specs.declared.query.Atom.TheVariants.{Compare, CompareColumns, Between, OneOf, IsNull}
use Rattle.query_model.specs.declared.query.Face.TheVariants.{Number}
use Rattle.query_model.specs.declared.query.ItemKind.{ItemKind}
use Rattle.query_model.specs.declared.query.ItemKind.TheVariants.{Count, Sum, Min, Max, Avg}
use Rattle.query_model.specs.declared.query.Shape.{Shape}
use Rattle.query_model.specs.declared.query.Shape.TheVariants.{Plain, Grouped, Top}
use Rattle.query_model.specs.declared.bounds.Bound.{Bound}
use Rattle.query_model.specs.declared.bounds.Nullity.{Nullity}
use Rattle.query_model.specs.declared.bounds.Nullity.TheVariants.{Never, Possibly, Always}
use Rattle.query_model.specs.declared.bounds.Standing.{Standing}
use Rattle.query_model.specs.declared.bounds.Standing.TheVariants.{Certain, Possible, Excluded}
use Rattle.query_model.specs.Meaning.{truth, val}
use Rattle.query_model.specs.Truths.{truth_over, truth_over_both}
use Rattle.query_model.specs.Knowledge.{known_of, plane_of, range_of}
use Rattle.query_model.specs.Answers.{Key}
use Rattle.query_model.specs.Bounds.{average_under, bound_under}
use Rattle.query_model.specs.Groups.{pairs_in_cell, presence_in_cell}
use Rattle.query_model.specs.Bounds.{bound_of}
use Rattle.query_model.specs.Ranking.{standing_under}
use Rattle.query_model.specs.Worlds.{answer_on, average_on, belongs_on}
use Rattle.query_model.specs.Projection.{projected, projected_frame}

-- the rows (5, 1), (null, 2), (9, null)
abbrev v : Ends
v = record { base = pos 5; top = pos 9; nullable = true; ordered = record { le = tt } }

abbrev w : Ends
w = record { base = pos 1; top = pos 2; nullable = true; ordered = record { le = tt } }

abbrev frame : Frame
frame = record { rows = 3; columns = v ∷ w ∷ [] }

abbrev cells : Cells
cells = (Some 0 ∷ None ∷ Some 4 ∷ []) ∷ (Some 0 ∷ Some 1 ∷ None ∷ []) ∷ []

-- as numbers and marks
cells_are : cells_from ((0 ∷ 0 ∷ 4 ∷ []) ∷ (0 ∷ 1 ∷ 0 ∷ []) ∷ []) ((false ∷ true ∷ false ∷ []) ∷ (false ∷ false ∷ true ∷ []) ∷ []) ≡ cells
cells_are = refl

-- four planes of v and two of w; the validity plane comes first, and a null has 0 in the others
planes_are : map planes (v ∷ w ∷ []) ≡ 4 ∷ 2 ∷ []
unfolding binary_digits
planes_are = refl

codes_are : map (code v) (Some 0 ∷ None ∷ Some 4 ∷ []) ≡ 8 ∷ 0 ∷ 12 ∷ []
unfolding binary_digits
codes_are = refl

first_plane : plane_of frame cells 0 0 ≡ true ∷ false ∷ true ∷ []
unfolding binary_digits
first_plane = refl

second_plane : plane_of frame cells 0 1 ≡ false ∷ false ∷ true ∷ []
unfolding binary_digits
second_plane = refl

-- the ranges of v: nothing read; the first digit 0, and 1; the digits 1 and 1
range_at_start : range_of v 0 0 ≡ record { null = Possibly; numbers = record { low = pos 5; high = pos 9 } }
unfolding binary_digits
range_at_start = refl

range_of_null : range_of v 1 0 ≡ record { null = Always; numbers = record { low = pos 5; high = pos 5 } }
unfolding binary_digits
range_of_null = refl

range_of_numbers : range_of v 1 1 ≡ record { null = Never; numbers = record { low = pos 5; high = pos 9 } }
unfolding binary_digits
range_of_numbers = refl

range_of_high : range_of v 2 3 ≡ record { null = Never; numbers = record { low = pos 9; high = pos 9 } }
unfolding binary_digits
range_of_high = refl

range_of_low : range_of v 2 2 ≡ record { null = Never; numbers = record { low = pos 5; high = pos 8 } }
unfolding binary_digits
range_of_low = refl

abbrev query_of : List ℕ → Condition → Shape → Query
query_of columns pred shape = record { columns = columns; items = []; pred = pred; shape = shape }

abbrev count_rows : Aggregate
count_rows = record { kind = Count; arg = Literal (pos 0); face = Number 0 }

abbrev item_of : ItemKind → ℕ → Aggregate
item_of kind c = record { kind = kind; arg = Column c; face = Number 0 }

abbrev interval : ℤ → ℤ → Bound
interval a b = record { null = Never; lo = a; hi = b }

abbrev after : Query → Aggregate → Key → List ℕ → Bound
after query item key counts =
    let part = projected_frame query frame in
    bound_under query item key part (known_of part (projected query cells) counts)

-- COUNT(*), COUNT(v), SUM(v) with no, one, two, three and four planes of v
abbrev all_v : Query
all_v = query_of (0 ∷ []) All Plain

abbrev three : List ℕ → List Bound
three counts = after all_v count_rows [] counts ∷ after all_v (item_of Count 0) [] counts ∷ after all_v (item_of Sum 0) [] counts ∷ []

three_round_0 : three (0 ∷ []) ≡ interval (pos 3) (pos 3) ∷ interval (pos 0) (pos 3) ∷ record { null = Possibly; lo = pos 5; hi = pos 27 } ∷ []
unfolding binary_digits
three_round_0 = refl

three_round_1 : three (1 ∷ []) ≡ interval (pos 3) (pos 3) ∷ interval (pos 2) (pos 2) ∷ interval (pos 10) (pos 18) ∷ []
unfolding binary_digits
three_round_1 = refl

three_round_2 : three (2 ∷ []) ≡ interval (pos 3) (pos 3) ∷ interval (pos 2) (pos 2) ∷ interval (pos 14) (pos 17) ∷ []
unfolding binary_digits
three_round_2 = refl

three_round_3 : three (3 ∷ []) ≡ interval (pos 3) (pos 3) ∷ interval (pos 2) (pos 2) ∷ interval (pos 14) (pos 15) ∷ []
unfolding binary_digits
three_round_3 = refl

three_round_4 : three (4 ∷ []) ≡ interval (pos 3) (pos 3) ∷ interval (pos 2) (pos 2) ∷ interval (pos 14) (pos 14) ∷ []
unfolding binary_digits
three_round_4 = refl

abbrev answers : List (Option ℤ)
answers = map (λ item. answer_on all_v item [] frame cells) (count_rows ∷ item_of Count 0 ∷ item_of Sum 0 ∷ [])

three_on_table : answers ≡ Some (pos 3) ∷ Some (pos 2) ∷ Some (pos 14) ∷ []
three_on_table = refl

-- AVG(v), MIN(v) and MAX(v) on the table
average_on_table : average_on all_v (item_of Avg 0) [] frame cells ≡ Some (pos 14, 2)
average_on_table = refl

ends_on_table : map (λ kind. answer_on all_v (item_of kind 0) [] frame cells) (Min ∷ Max ∷ []) ≡ Some (pos 5) ∷ Some (pos 9) ∷ []
ends_on_table = refl

-- AVG(v): at first one to three values, then two
average_round_0 : average_under all_v (item_of Avg 0) [] (projected_frame all_v frame) (known_of (projected_frame all_v frame) (projected all_v cells) (0 ∷ []))
    ≡ record { null = Possibly; lo = record { num = pos 5; den = 3 }; hi = record { num = pos 27; den = 1 } }
unfolding binary_digits
average_round_0 = refl

average_round_1 : average_under all_v (item_of Avg 0) [] (projected_frame all_v frame) (known_of (projected_frame all_v frame) (projected all_v cells) (1 ∷ []))
    ≡ record { null = Never; lo = record { num = pos 10; den = 2 }; hi = record { num = pos 18; den = 2 } }
unfolding binary_digits
average_round_1 = refl

-- COUNT(v) and SUM(v) WHERE v IS NULL: no value counts
abbrev null_values : Query
null_values = query_of (0 ∷ []) (Single (IsNull 0)) Plain

null_values_round_1 : map (λ kind. after null_values (item_of kind 0) [] (1 ∷ [])) (Count ∷ Sum ∷ []) ≡ interval (pos 0) (pos 0) ∷ record { null = Always; lo = pos 0; hi = pos 0 } ∷ []
unfolding binary_digits
null_values_round_1 = refl

null_values_on_table : map (λ kind. answer_on null_values (item_of kind 0) [] frame cells) (Count ∷ Sum ∷ []) ≡ Some (pos 0) ∷ None ∷ []
null_values_on_table = refl

-- SUM(v + w): only the first row has both
sum_of_both : answer_on (query_of (0 ∷ 1 ∷ []) All Plain) (record { kind = Sum; arg = Add (Column 0) (Column 1); face = Number 0 }) [] frame cells ≡ Some (pos 6)
sum_of_both = refl

-- COUNT(*) WHERE v > w, of which two rows are null
greater_on_table : answer_on (query_of (0 ∷ 1 ∷ []) (Single (CompareColumns 0 Gt 1)) Plain) count_rows [] frame cells ≡ Some (pos 1)
greater_on_table = refl

greater_round_1 : after (query_of (0 ∷ 1 ∷ []) (Single (CompareColumns 0 Gt 1)) Plain) count_rows [] (1 ∷ 1 ∷ []) ≡ interval (pos 1) (pos 1)
unfolding binary_digits truth_over_both
greater_round_1 = refl

-- COUNT(*) WHERE NOT (v > 7)

abbrev not_above : List ℕ → Bound
not_above counts = after (query_of (0 ∷ []) (Negation (Single (Compare 0 Gt (pos 7)))) Plain) count_rows [] counts

not_above_round_0 : not_above (0 ∷ []) ≡ interval (pos 0) (pos 3)
unfolding binary_digits truth_over
not_above_round_0 = refl

not_above_round_1 : not_above (1 ∷ []) ≡ interval (pos 0) (pos 2)
unfolding binary_digits truth_over
not_above_round_1 = refl

not_above_round_2 : not_above (2 ∷ []) ≡ interval (pos 0) (pos 1)
unfolding binary_digits truth_over
not_above_round_2 = refl

not_above_round_3 : not_above (3 ∷ []) ≡ interval (pos 1) (pos 1)
unfolding binary_digits truth_over
not_above_round_3 = refl

-- COUNT(*) WHERE v IS NULL, and WHERE v IS NOT NULL
abbrev missing : List ℕ → Bound
missing counts = after (query_of (0 ∷ []) (Single (IsNull 0)) Plain) count_rows [] counts

missing_round_0 : missing (0 ∷ []) ≡ interval (pos 0) (pos 3)
unfolding binary_digits
missing_round_0 = refl

missing_round_1 : missing (1 ∷ []) ≡ interval (pos 1) (pos 1)
unfolding binary_digits
missing_round_1 = refl

not_missing : after (query_of (0 ∷ []) (Negation (Single (IsNull 0))) Plain) count_rows [] (1 ∷ []) ≡ interval (pos 2) (pos 2)
unfolding binary_digits
not_missing = refl

-- w, COUNT(*) GROUP BY w: the counts of the keys null, 1 and 2
abbrev by_w : Query
by_w = query_of (1 ∷ []) All (Grouped (0 ∷ []))

abbrev counts_of_keys : List ℕ → List Bound
counts_of_keys counts = map (λ k. after by_w count_rows (k ∷ []) counts) (None ∷ Some (pos 1) ∷ Some (pos 2) ∷ [])

keys_round_0 : counts_of_keys (0 ∷ []) ≡ interval (pos 0) (pos 3) ∷ interval (pos 0) (pos 3) ∷ interval (pos 0) (pos 3) ∷ []
unfolding binary_digits truth_over
keys_round_0 = refl

keys_round_1 : counts_of_keys (1 ∷ []) ≡ interval (pos 1) (pos 1) ∷ interval (pos 0) (pos 2) ∷ interval (pos 0) (pos 2) ∷ []
unfolding binary_digits truth_over
keys_round_1 = refl

keys_round_2 : counts_of_keys (2 ∷ []) ≡ interval (pos 1) (pos 1) ∷ interval (pos 1) (pos 1) ∷ interval (pos 1) (pos 1) ∷ []
unfolding binary_digits truth_over
keys_round_2 = refl

-- the same by cells: the one cell; the cells 0 (null) and 1 (numbers); the cells 0 (null), 1 (no key), 2 and 3
abbrev cells_of_w : List ℕ → List ℕ → List Bound
cells_of_w counts cs =
    let part = projected_frame by_w frame in
    map (λ cell. bound_of Count (pairs_in_cell by_w count_rows cell part (known_of part (projected by_w cells) counts))) cs

abbrev words_of_w : List ℕ → List ℕ → List Nullity
words_of_w counts cs =
    let part = projected_frame by_w frame in
    map (λ cell. presence_in_cell by_w cell part (known_of part (projected by_w cells) counts)) cs

cells_round_0 : cells_of_w (0 ∷ []) (0 ∷ []) ≡ interval (pos 0) (pos 3) ∷ []
unfolding binary_digits
cells_round_0 = refl

words_round_0 : words_of_w (0 ∷ []) (0 ∷ []) ≡ Possibly ∷ []
unfolding binary_digits
words_round_0 = refl

cells_round_1 : cells_of_w (1 ∷ []) (0 ∷ 1 ∷ []) ≡ interval (pos 1) (pos 1) ∷ interval (pos 0) (pos 2) ∷ []
unfolding binary_digits
cells_round_1 = refl

words_round_1 : words_of_w (1 ∷ []) (0 ∷ 1 ∷ []) ≡ Never ∷ Possibly ∷ []
unfolding binary_digits
words_round_1 = refl

cells_round_2 : cells_of_w (2 ∷ []) (0 ∷ 1 ∷ 2 ∷ 3 ∷ []) ≡ interval (pos 1) (pos 1) ∷ interval (pos 0) (pos 0) ∷ interval (pos 1) (pos 1) ∷ interval (pos 1) (pos 1) ∷ []
unfolding binary_digits
cells_round_2 = refl

words_round_2 : words_of_w (2 ∷ []) (0 ∷ 1 ∷ 2 ∷ 3 ∷ []) ≡ Never ∷ Always ∷ Never ∷ Never ∷ []
unfolding binary_digits
words_round_2 = refl

-- w, SUM(v) GROUP BY w: the key 2 is in the result, and its sum is none
sums_by_w : map (λ k. answer_on (query_of (1 ∷ 0 ∷ []) All (Grouped (0 ∷ []))) (item_of Sum 1) (k ∷ []) frame cells) (None ∷ Some (pos 1) ∷ Some (pos 2) ∷ []) ≡ Some (pos 9) ∷ Some (pos 5) ∷ None ∷ []
sums_by_w = refl

counts_by_w : map (λ k. answer_on (query_of (1 ∷ 0 ∷ []) All (Grouped (0 ∷ []))) count_rows (k ∷ []) frame cells) (None ∷ Some (pos 1) ∷ Some (pos 2) ∷ []) ≡ Some (pos 1) ∷ Some (pos 1) ∷ Some (pos 1) ∷ []
counts_by_w = refl

-- ORDER BY v DESC LIMIT 2, and ASC LIMIT 2: null comes last
abbrev two_of : Bool → Query
two_of down = query_of (0 ∷ []) All (Top 0 down 2)

abbrev standings : Bool → List ℕ → List Standing
standings down counts =
    let part = projected_frame (two_of down) frame in
    map (standing_under (two_of down) part (known_of part (projected (two_of down) cells) counts)) (0 ∷ 1 ∷ 2 ∷ [])

greatest_round_0 : standings true (0 ∷ []) ≡ Possible ∷ Possible ∷ Possible ∷ []
unfolding binary_digits
greatest_round_0 = refl

greatest_round_1 : standings true (1 ∷ []) ≡ Certain ∷ Excluded ∷ Certain ∷ []
unfolding binary_digits
greatest_round_1 = refl

least_round_1 : standings false (1 ∷ []) ≡ Certain ∷ Excluded ∷ Certain ∷ []
unfolding binary_digits
least_round_1 = refl

first_on_table : map (belongs_on (two_of true) frame cells) (0 ∷ 1 ∷ 2 ∷ []) ≡ true ∷ false ∷ true ∷ []
first_on_table = refl

-- of two nulls the first row comes first
abbrev two_nulls : Cells
two_nulls = (None ∷ Some 4 ∷ None ∷ []) ∷ (Some 0 ∷ Some 1 ∷ None ∷ []) ∷ []

tied_nulls : map (λ down. map (belongs_on (two_of down) frame two_nulls) (0 ∷ 1 ∷ 2 ∷ [])) (true ∷ false ∷ []) ≡ (true ∷ true ∷ false ∷ []) ∷ (true ∷ true ∷ false ∷ []) ∷ []
tied_nulls = refl

-- three-valued logic at a row: column 0 is null and column 1 is 2
abbrev row : ℕ → Option ℤ
row zero = None
row (suc c) = Some (pos 2)

abbrev unknown : Condition
unknown = Single (Compare 0 Gt (pos 7))

abbrev yes : Condition
yes = Single (Compare 1 Eq (pos 2))

abbrev no : Condition
no = Single (Compare 1 Ne (pos 2))

not_null : truth (Negation unknown) row ≡ None
not_null = refl

null_and : map (λ side. truth (Both unknown side) row) (yes ∷ unknown ∷ no ∷ []) ≡ None ∷ None ∷ Some false ∷ []
null_and = refl

null_or : map (λ side. truth (Either unknown side) row) (yes ∷ unknown ∷ no ∷ []) ≡ Some true ∷ None ∷ None ∷ []
null_or = refl

null_atoms : map (λ atom. truth (Single atom) row) (CompareColumns 0 Eq 0 ∷ CompareColumns 1 Eq 0 ∷ Between 0 (pos 1) (pos 3) ∷ OneOf 0 [] ∷ IsNull 0 ∷ IsNull 1 ∷ []) ≡ None ∷ None ∷ None ∷ None ∷ Some true ∷ Some false ∷ []
null_atoms = refl

null_sum : val (Add (Column 0) (Column 1)) row ≡ None
null_sum = refl
