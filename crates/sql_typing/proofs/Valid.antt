-- A query that is typed is valid.
use Rattle.std.proofs.Common.{◌≡◌, ℕ, ◌<◌, ◌≤◌, ◌==◌, ◌&&◌, true, ℤ, pos, negsuc, nat_abs, List, [], ◌++◌, length, map, Option, Some, None, refl, sym, subst, arith}
use Rattle.std.proofs.lemmas.Int.{ints}
use Rattle.std.specs.Prelude.{int_lt, int_le}
use Rattle.std.specs.List.{AllByRecursion}
use Rattle.daq_table.specs.Tables.{frame_of}
use Rattle.daq_table.specs.declared.head.ColumnHead.{ColumnHead}
use Rattle.daq_table.specs.declared.table_head.Head.{Head}
use Rattle.query_model.specs.Meaning.{PredReadsBelow}
use Rattle.query_model.specs.Projection.{projected_frame}
use Rattle.query_model.specs.Queries.{Query}
use Rattle.query_model.specs.Validity.{CanCompareIn, FitsItem, IsValid, IsValidItem, IsValidShape}
use Rattle.sql_text.specs.Tree as tree
use Rattle.sql_text.specs.Tree.{Name}
use Rattle.sql_typing.specs.Faults.{aggregates_in, ending_fault, filter_fault, first_fault, group_bits, head_fault, is_limit, items_fault}
use Rattle.sql_typing.specs.Laws.{IsTypedValid}
use Rattle.sql_typing.specs.Names.{names_in, names_in_ending, names_in_filter, names_in_head, names_in_pred, number_of}
use Rattle.sql_typing.specs.Typing.{columns_of, group_columns, typed, typed_ending, typed_filter, typed_head, typed_items}
use Rattle.sql_typing.proofs.Alls.{all_left, all_over, all_right}
use Rattle.sql_typing.proofs.Clean.{clean}
use Rattle.sql_typing.proofs.Distinct.{after_all, after_distinct, no_repeats_in}
use Rattle.sql_typing.proofs.Exact.{all_fit}
use Rattle.sql_typing.proofs.Firsts.{not_if}
use Rattle.sql_typing.proofs.Numbered.{IsNumbered, all_numbered, columns_distinct, columns_in_range}
use Rattle.sql_typing.proofs.Readings.{typed_alike, typed_below}
use Rattle.sql_typing.proofs.Comparisons.{and_left, and_right, false_not}
use Rattle.sql_typing.proofs.ValidItems.{counted_items, numbers_below, valid_items}

-- ---- the condition

filter_below : (table : List ColumnHead) (columns : List ℕ) (o : Option tree.Pred) → AllByRecursion (IsNumbered table columns) (names_in_filter o) → PredReadsBelow (length columns) (typed_filter table columns o)
filter_below table columns None h = tt
filter_below table columns (Some a) h = typed_below table columns (length columns) a (numbers_below table columns (names_in_pred a) h)

filter_alike : (head : Head) (query : Query) (o : Option tree.Pred) → filter_fault head.columns o ≡ None → AllByRecursion (IsNumbered head.columns query.columns) (names_in_filter o)
    → CanCompareIn head query (typed_filter head.columns query.columns o)
filter_alike head query None e h = tt
filter_alike head query (Some a) e h = typed_alike head query a e h

-- ---- the items

head_items : (head : Head) (query : Query) (groups : List Name) (h : tree.Head) → head_fault head.columns groups h ≡ None → AllByRecursion (IsNumbered head.columns query.columns) (names_in_head h)
    → AllByRecursion (FitsItem (projected_frame query (frame_of head))) (typed_head head.columns query.columns h) → AllByRecursion (IsValidItem head query) (typed_head head.columns query.columns h)
head_items head query groups (tree.Items is) good numbered fits = valid_items head query groups is good numbered fits
head_items head query groups tree.Star good numbered fits = tt

items_valid : (head : Head) (query : Query) (ending : tree.Ending) (h : tree.Head) → items_fault head.columns ending h ≡ None → AllByRecursion (IsNumbered head.columns query.columns) (names_in_head h)
    → AllByRecursion (FitsItem (projected_frame query (frame_of head))) (typed_items head.columns query.columns ending h) → AllByRecursion (IsValidItem head query) (typed_items head.columns query.columns ending h)
items_valid head query tree.Nothing h good numbered fits = head_items head query [] h good numbered fits
items_valid head query (tree.Grouped ns) h good numbered fits = head_items head query ns h good numbered fits
items_valid head query (tree.Ordered key down limit) h good numbered fits = tt

head_length : (table : List ColumnHead) (columns : List ℕ) (h : tree.Head) → length (typed_head table columns h) ≡ aggregates_in h
head_length table columns (tree.Items is) = counted_items table columns is
head_length table columns tree.Star = refl

few_items : (table : List ColumnHead) (columns : List ℕ) (ending : tree.Ending) (h : tree.Head) → aggregates_in h ≤ 16 → length (typed_items table columns ending h) ≤ 16
few_items table columns tree.Nothing h few = subst (λ (n : ℕ). n ≤ 16) (sym (head_length table columns h)) few
few_items table columns (tree.Grouped ns) h few = subst (λ (n : ℕ). n ≤ 16) (sym (head_length table columns h)) few
few_items table columns (tree.Ordered key down limit) h few = omega arith

-- ---- the shape

above_zero : (z : ℤ) → int_lt (pos 0) z ≡ true → 1 ≤ nat_abs z
above_zero (pos n) h = omega (arith, ints)
above_zero (negsuc n) h = omega (arith, ints)

up_to : (z : ℤ) → int_lt (pos 0) z ≡ true → int_le z (pos 1000) ≡ true → nat_abs z ≤ 1000
up_to (pos n) h k = omega (arith, ints)
up_to (negsuc n) h k = omega (arith, ints)

valid_shape : (head : Head) (query : Query) (ending : tree.Ending) (h : tree.Head) → query.items ≡ typed_items head.columns query.columns ending h → ending_fault ending ≡ None
    → group_bits head.columns query.columns (typed_ending head.columns query.columns ending) ≤ 16 → AllByRecursion (IsNumbered head.columns query.columns) (names_in_ending ending)
    → IsValidShape head query (typed_ending head.columns query.columns ending)
valid_shape head query tree.Nothing h items good few numbered = tt
valid_shape head query (tree.Grouped ns) h items good few numbered = (
  after_all (λ c. c < length query.columns) [] (map (λ n. number_of head.columns query.columns n.name) ns) tt (all_over (λ c. c < length query.columns) (λ n. number_of head.columns query.columns n.name) ns (numbers_below head.columns query.columns ns numbered)),
  no_repeats_in (group_columns head.columns query.columns ns) (after_distinct [] (map (λ n. number_of head.columns query.columns n.name) ns) tt),
  few,
)
valid_shape head query (tree.Ordered key down limit) h items good few numbered =
    let is : is_limit limit ≡ true = false_not (is_limit limit) (not_if _ _ good) in
    let first = and_left ((limit.scale == 0) && int_lt (pos 0) limit.units) (int_le limit.units (pos 1000)) is in
    let above = and_right (limit.scale == 0) (int_lt (pos 0) limit.units) first in
    let below = and_right ((limit.scale == 0) && int_lt (pos 0) limit.units) (int_le limit.units (pos 1000)) is in
    (numbered.0.within, above_zero limit.units above, up_to limit.units above below, items)

-- ---- the whole

all_valid : (q : tree.Query) (head : Head) → first_fault head.columns q ≡ None
    → AllByRecursion (FitsItem (projected_frame (typed head.columns q) (frame_of head))) (typed head.columns q).items → IsValid head (typed head.columns q)
all_valid q head none fits =
    let query = typed head.columns q in
    let facts = clean head.columns q none in
    let numbered = all_numbered head.columns (names_in q) facts.known in
    let front = all_left (IsNumbered head.columns query.columns) (names_in_head q.head ++ names_in_filter q.pred) (names_in_ending q.ending) numbered in
    let in_head = all_left (IsNumbered head.columns query.columns) (names_in_head q.head) (names_in_filter q.pred) front in
    let in_filter = all_right (IsNumbered head.columns query.columns) (names_in_head q.head) (names_in_filter q.pred) front in
    let in_ending = all_right (IsNumbered head.columns query.columns) (names_in_head q.head ++ names_in_filter q.pred) (names_in_ending q.ending) numbered in
    record {
      few_columns = facts.few_columns;
      in_range = columns_in_range head.columns (names_in q);
      distinct = no_repeats_in (columns_of head.columns q) (columns_distinct head.columns (names_in q));
      few_items = few_items head.columns query.columns q.ending q.head facts.few_items;
      condition = filter_below head.columns query.columns q.pred in_filter;
      compared = filter_alike head query q.pred facts.condition in_filter;
      shape = valid_shape head query q.ending q.head refl facts.ending facts.groups in_ending;
      items = items_valid head query q.ending q.head facts.select_list in_head fits;
    }

pub valid : IsTypedValid
valid q head query is_typed = subst (λ (x : Query). IsValid head x) (sym is_typed.same) (all_valid q head is_typed.faultless (all_fit q head query is_typed))
