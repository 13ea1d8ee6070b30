-- What the aggregates of a query answer over the rows of a table.
use Rattle.std.specs.Prelude.{ℕ, pos, Bool, true, false, not, ◌&&◌, if◌then◌else◌, List, [], ◌∷◌, length, filter}
use Rattle.std.specs.declared.option.Option.{Option}
use Rattle.std.specs.declared.option.Option.TheVariants.{Some, None}
use Rattle.std.specs.List.{filter_map, list_all}
use Rattle.std.specs.Option.{option_map}
use Rattle.std.specs.Ordering.{is_eq, is_gt, is_some_and}
use Rattle.query_model.specs.Meaning.{is_sql_true}
use Rattle.sql_text.specs.declared.tree.CallKind.{CallKind}
use Rattle.sql_text.specs.declared.tree.CallKind.TheVariants as calls
use Rattle.sql_text.specs.Tree.{Name, Item, Plain, CountAll, Call, Head, Items, Star, Ending, Nothing, Grouped, Ordered, Query}
use Rattle.sql_meaning.specs.Values.{Decimal, Value, Number, compare, compare_decimals}
use Rattle.sql_meaning.specs.Conditions.{Row, truth_of_where}
use Rattle.sql_meaning.specs.Expressions.{computed, plus, times, value}

-- both are null, or one value; 1.5 and 1.50 are one
abbrev pub is_same : Option Value → Option Value → Bool
is_same None None = true
is_same None (Some v) = false
is_same (Some u) None = false
is_same (Some u) (Some v) = is_some_and is_eq (compare u v)

-- ---- the rows that count

-- the columns of GROUP BY
abbrev pub grouping : Ending → List Name
grouping Nothing = []
grouping (Grouped names) = names
grouping (Ordered key down limit) = []

-- the rows have the same values in the columns of GROUP BY; without it all rows are one group
abbrev pub are_one_group : Ending → Row → Row → Bool
are_one_group ending row one = list_all (λ n. is_same (row n.name) (one n.name)) (grouping ending)

-- the rows of the group of one row at which the condition is true, neither false nor null
abbrev pub group_of : Query → Row → List Row → List Row
group_of q one rows = filter (λ row. is_sql_true (truth_of_where q.pred row) && are_one_group q.ending row one) rows

-- ---- aggregates

-- a whole number
abbrev pub whole : ℕ → Value
whole n = Number (record { digits = pos n; behind = 0 })

-- the values added up, and null of none
abbrev pub total : List Value → Option Value
total [] = None
total (v ∷ []) = Some v
total (v ∷ u ∷ us) = computed plus (Some v) (total (u ∷ us))

abbrev pub is_after : Value → Value → Bool
is_after u v = is_some_and is_gt (compare u v)

abbrev pub lesser : Value → Value → Value
lesser u v = if is_after u v then v else u

abbrev pub greater : Value → Value → Value
greater u v = if is_after u v then u else v

-- the least and the greatest of some values, and null of none
abbrev pub least : List Value → Option Value
least [] = None
least (v ∷ []) = Some v
least (v ∷ u ∷ us) = option_map (lesser v) (least (u ∷ us))

abbrev pub greatest : List Value → Option Value
greatest [] = None
greatest (v ∷ []) = Some v
greatest (v ∷ u ∷ us) = option_map (greater v) (greatest (u ∷ us))

-- what some values add up to, divided by how many they are, as these two
pub record Share : Type 0 where
  pub total : Value
  pub count : ℕ

-- the average of some values, and null of none
abbrev pub average : List Value → Option Share
average values = option_map (λ t. record { total = t; count = length values }) (total values)

-- a decimal so many times
abbrev pub multiplied : Decimal → ℕ → Decimal
multiplied a n = times a (record { digits = pos n; behind = 0 })

-- one number over the first count is at most another over the second, by cross products
abbrev pub are_at_most : Value → ℕ → Value → ℕ → Bool
are_at_most (Number a) m (Number b) n = not (is_gt (compare_decimals (multiplied a n) (multiplied b m)))
are_at_most u m v n = false

abbrev pub is_share_at_most : Share → Share → Bool
is_share_at_most a b = are_at_most a.total a.count b.total b.count

-- an aggregate of some values that are not null. AVG is what stands here divided by how many they are
abbrev pub aggregate : CallKind → List Value → Option Value
aggregate calls.Count values = Some (whole (length values))
aggregate calls.Sum values = total values
aggregate calls.Avg values = total values
aggregate calls.Min values = least values
aggregate calls.Max values = greatest values

-- an item over some rows: nulls are left out; COUNT(*) counts the rows; a name alone is no aggregate
abbrev pub answer : Item → List Row → Option Value
answer (Plain n) rows = None
answer CountAll rows = Some (whole (length rows))
answer (Call kind e) rows = aggregate kind (filter_map (value e) rows)

abbrev pub is_asked : Item → Bool
is_asked (Plain n) = false
is_asked CountAll = true
is_asked (Call kind e) = true

-- the aggregates of a select list
abbrev pub asked : Head → List Item
asked (Items items) = filter is_asked items
asked Star = []
