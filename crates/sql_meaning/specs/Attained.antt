-- Of which queries it is said that each end of an interval is the answer in some world, and that a key which is only possible is missing in
-- one: those that name no column twice, but for ranges of one column that AND joins, and columns that move the item one way.
use Rattle.std.specs.Prelude.{◌≡◌, ◌≢◌, ◌⊎◌, ℕ, ℤ, ◌≤ℤ◌, ⊤, Bool, true, false, not, ◌&&◌, List, [], ◌∷◌, ◌++◌, IsTrue, filter, flat_map}
use Rattle.std.specs.Prelude.{AllPairs, IsFalse, if◌then◌else◌, slice_get}
use Rattle.std.specs.declared.option.Option.{Option}
use Rattle.std.specs.declared.option.Option.TheVariants.{Some, None}
use Rattle.std.specs.List.{AllByRecursion, list_any}
use Rattle.std.specs.Str.{bytes_eq}
use Rattle.daq_table.specs.ColumnFacts.{is_text}
use Rattle.daq_table.specs.Tables.{ends_at, frame_of}
use Rattle.daq_table.specs.declared.head.ColumnHead.{ColumnHead}
use Rattle.daq_table.specs.declared.table_head.Head.{Head}
use Rattle.sql_text.specs.declared.tree.Comparison.TheVariants.{Ne}
use Rattle.sql_text.specs.Tree.{Add, Between, Both, Call, Column, Compare, Expr, Item, Mul, Name, Number, Pred, Query, Sub}
use Rattle.sql_typing.specs.Names.{names_in_expr, names_in_item, names_in_pred, place_of}
use Rattle.sql_typing.specs.Typing.{scale_of}
use Rattle.sql_meaning.specs.Answers.{grouping, is_after, whole}
use Rattle.sql_meaning.specs.Conditions.{Row, truth}
use Rattle.sql_meaning.specs.Expressions.{value}
use Rattle.sql_meaning.specs.Rows.{value_of}
use Rattle.sql_meaning.specs.Values.{Value}

-- each column of texts has a text that it may have
abbrev pub HasTexts : Head → Type 0
HasTexts head =
    (place : ℕ) (column : ColumnHead) → slice_get head.columns place ≡ Some column → IsTrue (is_text column.kind) → column.names ≢ []

-- no name stands twice in the list
abbrev pub names_differ : List Name → Bool
names_differ [] = true
names_differ (n ∷ ns) = not (list_any (λ m. bytes_eq n.name m.name) ns) && names_differ ns

-- some columns, and behind them others that are not yet there
abbrev pub with_names : List Name → List Name → List Name
with_names seen [] = seen
with_names seen (n ∷ ns) = with_names (if list_any (λ m. bytes_eq n.name m.name) seen then seen else seen ++ n ∷ []) ns

-- ---- ranges

-- the conditions that AND joins in WHERE
abbrev pub joined : Pred → List Pred
joined (Both a b) = joined a ++ joined b
joined a = a ∷ []

abbrev pub joined_in : Option Pred → List Pred
joined_in None = []
joined_in (Some a) = joined a

-- a condition that asks whether a column lies in a range: a comparison with what is written, but for <>, or BETWEEN
abbrev pub is_range : Pred → Bool
is_range (Compare n Ne v) = false
is_range (Compare n op v) = true
is_range (Between n low high) = true
is_range a = false

-- a value that a column can have, the one for which a number stands: one of so many decimals, a date, or one of the column's texts
pub record CanHave (head : Head) (n : Name) (v : Value) : Type 0 where
  pub place : ℕ
  pub number : ℤ
  pub named : place_of head.columns n.name ≡ Some place
  pub is : value_of (slice_get head.columns place) (Some number) ≡ Some v

-- two ranges are of two columns, or in both lies a value that their column can have
abbrev pub Meet : Head → Pred → Pred → Type 0
Meet head a b =
    IsTrue (names_differ (names_in_pred a ++ names_in_pred b))
    ⊎ ((v : Value) × AllByRecursion (λ n. CanHave head n v) (names_in_pred a)
    × (truth a (λ name. Some v) ≡ Some true) × (truth b (λ name. Some v) ≡ Some true))

-- ---- columns that move an expression one way

-- a value that a column can have lies between its declared ends
pub record IsDeclared (head : Head) (n : Name) (v : Value) : Type 0 where
  pub can : CanHave head n v
  pub low : (ends_at (frame_of head) can.place).base ≤ℤ can.number
  pub high : can.number ≤ℤ (ends_at (frame_of head) can.place).top

-- where each column has such a value, the expression is not below 0
abbrev pub IsNeverNegative : Head → Expr → Type 0
IsNeverNegative head e =
    (row : Row) → AllByRecursion (λ n. (v : Value) × (row n.name ≡ Some v) × IsDeclared head n v) (names_in_expr e) →
    (v : Value) → value e row ≡ Some v → IsFalse (is_after (whole 0) v)

-- two sides are level: they have equally many decimals, or neither is ever negative
abbrev pub AreLevel : Head → Expr → Expr → Type 0
AreLevel head a b = (scale_of head.columns a ≡ scale_of head.columns b) ⊎ (IsNeverNegative head a × IsNeverNegative head b)

-- let each column move one way, up or down. Then the expression moves up, or down: a sum of level sides that both do, a difference of level
-- sides of which the second moves the other way, and a product of sides that both do and are never negative
abbrev pub Moves : Head → (List ℕ → Bool) → Bool → Expr → Type 0
Moves head ways up (Column n) = ways n.name ≡ up
Moves head ways up (Number v) = ⊤
Moves head ways up (Add a b) = Moves head ways up a × Moves head ways up b × AreLevel head a b
Moves head ways up (Sub a b) = Moves head ways up a × Moves head ways (not up) b × AreLevel head a b
Moves head ways up (Mul at a b) = Moves head ways up a × Moves head ways up b × IsNeverNegative head a × IsNeverNegative head b

-- each column, however often it stands in the argument, moves it one way
abbrev pub GoesOneWay : Head → Item → Type 0
GoesOneWay head (Call kind e) = (ways : List ℕ → Bool) × Moves head ways true e
GoesOneWay head item = ⊥

-- ---- queries

-- the columns of WHERE and GROUP BY, of which those of ranges that AND joins count once, and those of GROUP BY
abbrev pub names_of_rows : Query → List Name
names_of_rows q =
    with_names [] (flat_map names_in_pred (filter is_range (joined_in q.pred)))
    ++ (flat_map names_in_pred (filter (λ a. not (is_range a)) (joined_in q.pred)) ++ with_names [] (grouping q.ending))

-- WHERE and GROUP BY name no column twice, but for ranges of it that AND joins. Of these each two meet
pub record AttainsKeys (head : Head) (q : Query) : Type 0 where
  pub meet : AllPairs (Meet head) (filter is_range (joined_in q.pred))
  pub once : IsTrue (names_differ (names_of_rows q))

-- and none of these columns is named by the item, which names none twice, or each moves it one way
pub record AttainsEnds (head : Head) (q : Query) (item : Item) : Type 0 where
  pub rows : AttainsKeys head q
  pub apart : IsTrue (names_differ (names_of_rows q ++ with_names [] (names_in_item item)))
  pub argument : IsTrue (names_differ (names_in_item item)) ⊎ GoesOneWay head item
