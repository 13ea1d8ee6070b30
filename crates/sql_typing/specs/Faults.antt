-- The checks of a query, in order, and the first that refuses.
use Rattle.std.specs.Prelude.{ℕ, ◌+◌, ◌==◌, nat_lt, int_lt, int_le, pos, codes, Bool, true, false, not}
use Rattle.std.specs.Prelude.{◌&&◌, ◌||◌, List, [], ◌∷◌, length, map, slice_index_or, Option, Some, None}
use Rattle.std.specs.List.{count_by, list_any, sum}
use Rattle.std.specs.Str.{bytes_eq}
use Rattle.daq_table.specs.Tables.{ends_of, no_ends, planes}
use Rattle.daq_table.specs.declared.head.Ends.{Ends}
use Rattle.daq_table.specs.declared.head.ColumnHead.{ColumnHead}
use Rattle.daq_table.specs.declared.head.Kind.{Kind}
use Rattle.query_model.specs.Answers.{groups_of}
use Rattle.query_model.specs.declared.query.Shape.{Shape}
use Rattle.sql_text.specs.declared.tree.Num.{Num}
use Rattle.sql_text.specs.Tree.{Name, Expr, Item, Head, Operand, Pred, Ending, Query, Column, Number, Add, Sub, Mul, Plain, CountAll, Call}
use Rattle.sql_text.specs.Tree.{Items, Star, Compare, Columns, Between, OneOf, IsNull, Negation, Both, Either, Nothing, Grouped, Ordered}
use Rattle.sql_typing.specs.declared.fault.TypeFault.{TypeFault}
use Rattle.sql_typing.specs.declared.fault.TypeFault.TheVariants.{UnknownTable, UnknownColumn, TooManyColumns, TooManyItems, KindsDiffer}
use Rattle.sql_typing.specs.declared.fault.TypeFault.TheVariants.{ScaleTooFine, NotGrouped, TooManyValues, LimitOutOfRange, GroupTooWide}
use Rattle.sql_typing.specs.Kinds.{can_compare, is_number, most_scale, place_of_operand, scale_of_kind, scale_of_operand, suits}
use Rattle.sql_typing.specs.Names.{kind_of, names_in, place_of}
use Rattle.sql_typing.specs.Typing.{columns_of, scale_of, typed_ending, whole_column}

-- the first of two faults
abbrev pub first_of : Option TypeFault → Option TypeFault → Option TypeFault
first_of None later = later
first_of (Some fault) later = Some fault

-- the first fault of a list
abbrev pub first_in : {A : Type 0} → (A → Option TypeFault) → List A → Option TypeFault
first_in check [] = None
first_in check (x ∷ xs) = first_of (check x) (first_in check xs)

abbrev pub fault_if : Bool → TypeFault → Option TypeFault
fault_if true fault = Some fault
fault_if false fault = None

-- ---- names and numbers of things

abbrev pub table_fault : Name → Option TypeFault
table_fault n = fault_if (not (bytes_eq n.name (codes "t"))) (UnknownTable n.at)

abbrev pub unknown_at : ℕ → Option ℕ → Option TypeFault
unknown_at at None = Some (UnknownColumn at)
unknown_at at (Some c) = None

abbrev pub name_fault : List ColumnHead → Name → Option TypeFault
name_fault table n = unknown_at n.at (place_of table n.name)

abbrev pub too_many_columns : List ColumnHead → Query → Option TypeFault
too_many_columns table q = fault_if (nat_lt 16 (length (columns_of table q))) TooManyColumns

abbrev pub is_aggregate : Item → Bool
is_aggregate (Plain n) = false
is_aggregate CountAll = true
is_aggregate (Call kind e) = true

abbrev pub aggregates_in : Head → ℕ
aggregates_in (Items is) = count_by is_aggregate is
aggregates_in Star = 0

abbrev pub too_many_items : Query → Option TypeFault
too_many_items q = fault_if (nat_lt 16 (aggregates_in q.head)) TooManyItems

-- ---- in the order of the text

-- a name in an expression, which has to be one of numbers
abbrev pub operand_fault : Kind → ℕ → Option TypeFault
operand_fault kind at = first_of (fault_if (not (is_number kind)) (KindsDiffer at))
    (fault_if (nat_lt most_scale (scale_of_kind kind)) (ScaleTooFine at))

-- the sign of a product stands between its sides
abbrev pub expr_fault : List ColumnHead → Expr → Option TypeFault
expr_fault table (Column n) = operand_fault (kind_of table n.name) n.at
expr_fault table (Number v) = fault_if (nat_lt most_scale v.scale) (ScaleTooFine v.at)
expr_fault table (Add a b) = first_of (expr_fault table a) (expr_fault table b)
expr_fault table (Sub a b) = first_of (expr_fault table a) (expr_fault table b)
expr_fault table (Mul at a b) = first_of (expr_fault table a)
    (first_of (fault_if (nat_lt most_scale (scale_of table (Mul at a b))) (ScaleTooFine at)) (expr_fault table b))

-- a column that is the whole argument of COUNT, MIN or MAX may be of any kind
abbrev pub argument_fault : List ColumnHead → Option Name → Expr → Option TypeFault
argument_fault table None e = expr_fault table e
argument_fault table (Some n) e = None

abbrev pub is_grouped : List Name → Name → Bool
is_grouped groups n = list_any (λ g. bytes_eq g.name n.name) groups

abbrev pub item_fault : List ColumnHead → List Name → Item → Option TypeFault
item_fault table groups (Plain n) = fault_if (not (is_grouped groups n)) (NotGrouped n.at)
item_fault table groups CountAll = None
item_fault table groups (Call kind e) = argument_fault table (whole_column kind e) e

abbrev pub head_fault : List ColumnHead → List Name → Head → Option TypeFault
head_fault table groups (Items is) = first_in (item_fault table groups) is
head_fault table groups Star = None

-- the first fault of the aggregates; rows in an order have none
abbrev pub items_fault : List ColumnHead → Ending → Head → Option TypeFault
items_fault table Nothing head = head_fault table [] head
items_fault table (Grouped ns) head = head_fault table ns head
items_fault table (Ordered key down limit) head = None

-- the value has more decimals than its column, or that has too many
abbrev pub is_too_fine : Kind → Operand → Bool
is_too_fine kind v = nat_lt (scale_of_kind kind) (scale_of_operand v) || nat_lt most_scale (scale_of_kind kind)

-- a value has to suit its column, with no more decimals than that
abbrev pub value_fault : Kind → Operand → Option TypeFault
value_fault kind v = first_of (fault_if (not (suits kind v)) (KindsDiffer (place_of_operand v)))
    (fault_if (is_too_fine kind v) (ScaleTooFine (place_of_operand v)))

-- the values of an IN behind the first so many
abbrev pub values_fault : Kind → ℕ → List Operand → Option TypeFault
values_fault kind before [] = None
values_fault kind before (v ∷ vs) = first_of (value_fault kind v)
    (first_of (fault_if (before == 64) (TooManyValues (place_of_operand v))) (values_fault kind (before + 1) vs))

abbrev pub pred_fault : List ColumnHead → Pred → Option TypeFault
pred_fault table (Compare n op v) = value_fault (kind_of table n.name) v
pred_fault table (Columns l op r) = fault_if (not (can_compare (kind_of table l.name) (kind_of table r.name))) (KindsDiffer r.at)
pred_fault table (Between n low high) = first_of (value_fault (kind_of table n.name) low) (value_fault (kind_of table n.name) high)
pred_fault table (OneOf n vs) = values_fault (kind_of table n.name) 0 vs
pred_fault table (IsNull n) = None
pred_fault table (Negation a) = pred_fault table a
pred_fault table (Both a b) = first_of (pred_fault table a) (pred_fault table b)
pred_fault table (Either a b) = first_of (pred_fault table a) (pred_fault table b)

abbrev pub filter_fault : List ColumnHead → Option Pred → Option TypeFault
filter_fault table None = None
filter_fault table (Some a) = pred_fault table a

-- a whole number from 1 to 1000
abbrev pub is_limit : Num → Bool
is_limit n = (n.scale == 0) && int_lt (pos 0) n.units && int_le n.units (pos 1000)

abbrev pub ending_fault : Ending → Option TypeFault
ending_fault Nothing = None
ending_fault (Grouped ns) = None
ending_fault (Ordered key down limit) = fault_if (not (is_limit limit)) (LimitOutOfRange limit.at)

abbrev pub text_fault : List ColumnHead → Query → Option TypeFault
text_fault table q = first_of (items_fault table q.ending q.head) (first_of (filter_fault table q.pred) (ending_fault q.ending))

-- ---- groups

-- the declared ends of a column of the table
abbrev pub ends_in : List ColumnHead → ℕ → Ends
ends_in table c = slice_index_or (map ends_of table) c no_ends

-- the planes of a column of the query
abbrev pub planes_at : List ColumnHead → List ℕ → ℕ → ℕ
planes_at table columns c = planes (slice_index_or (map (ends_in table) columns) c no_ends)

-- the planes of the different columns of GROUP BY
abbrev pub group_bits : List ColumnHead → List ℕ → Shape → ℕ
group_bits table columns shape = sum (map (planes_at table columns) (groups_of shape))

abbrev pub shape_fault : List ColumnHead → List ℕ → Shape → Option TypeFault
shape_fault table columns shape = fault_if (nat_lt 16 (group_bits table columns shape)) (GroupTooWide (group_bits table columns shape))

abbrev pub group_fault : List ColumnHead → Query → Option TypeFault
group_fault table q = shape_fault table (columns_of table q) (typed_ending table (columns_of table q) q.ending)

-- ---- all checks but that of 128 bits

abbrev pub first_fault : List ColumnHead → Query → Option TypeFault
first_fault table q = first_of (table_fault q.table) (first_of (first_in (name_fault table) (names_in q))
    (first_of (too_many_columns table q) (first_of (too_many_items q)
    (first_of (text_fault table q) (group_fault table q)))))
