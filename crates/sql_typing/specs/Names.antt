-- The names of a query, and the columns that they name.
use Rattle.std.specs.Prelude.{ℕ, ◌==◌, if◌then◌else◌, List, [], ◌∷◌}
use Rattle.std.specs.Prelude.{◌++◌, map, slice_index_or, Option, Some, None, unwrap_or}
use Rattle.std.specs.List.{list_any, position}
use Rattle.std.specs.Str.{bytes_eq}
use Rattle.daq_table.specs.declared.head.ColumnHead.{ColumnHead}
use Rattle.daq_table.specs.declared.head.Kind.{Kind}
use Rattle.daq_table.specs.declared.head.Kind.TheVariants.{Int}
use Rattle.sql_text.specs.Tree.{Name, Expr, Item, Head, Pred, Ending, Query, Column, Number, Add, Sub, Mul, Plain, CountAll, Call}
use Rattle.sql_text.specs.Tree.{Items, Star, Compare, Columns, Between, OneOf, IsNull, Negation, Both, Either, Nothing, Grouped, Ordered}
use Rattle.sql_typing.specs.declared.names.Mention.{Mention}

-- ---- names in the order of the text

-- in an expression, and so in each part of a query
abbrev pub names_in_expr : Expr → List Name
names_in_expr (Column n) = n ∷ []
names_in_expr (Number v) = []
names_in_expr (Add a b) = names_in_expr a ++ names_in_expr b
names_in_expr (Sub a b) = names_in_expr a ++ names_in_expr b
names_in_expr (Mul at a b) = names_in_expr a ++ names_in_expr b

abbrev pub names_in_item : Item → List Name
names_in_item (Plain n) = n ∷ []
names_in_item CountAll = []
names_in_item (Call kind e) = names_in_expr e

abbrev pub names_in_items : List Item → List Name
names_in_items [] = []
names_in_items (i ∷ is) = names_in_item i ++ names_in_items is

abbrev pub names_in_head : Head → List Name
names_in_head (Items is) = names_in_items is
names_in_head Star = []

abbrev pub names_in_pred : Pred → List Name
names_in_pred (Compare n op v) = n ∷ []
names_in_pred (Columns l op r) = l ∷ r ∷ []
names_in_pred (Between n low high) = n ∷ []
names_in_pred (OneOf n vs) = n ∷ []
names_in_pred (IsNull n) = n ∷ []
names_in_pred (Negation a) = names_in_pred a
names_in_pred (Both a b) = names_in_pred a ++ names_in_pred b
names_in_pred (Either a b) = names_in_pred a ++ names_in_pred b

abbrev pub names_in_filter : Option Pred → List Name
names_in_filter None = []
names_in_filter (Some a) = names_in_pred a

abbrev pub names_in_ending : Ending → List Name
names_in_ending Nothing = []
names_in_ending (Grouped ns) = ns
names_in_ending (Ordered key down limit) = key ∷ []

-- all but that of the table
abbrev pub names_in : Query → List Name
names_in q = names_in_head q.head ++ names_in_filter q.pred ++ names_in_ending q.ending

-- ---- columns

-- the column of that name, by its place in the table
abbrev pub place_of : List ColumnHead → List ℕ → Option ℕ
place_of table name = position (λ c. bytes_eq c.name name) table

-- where a name stands, and what it names
abbrev pub mention : List ColumnHead → Name → Mention
mention table n = record { at = n.at; column = place_of table n.name }

abbrev pub mentions : List ColumnHead → List Name → List Mention
mentions table ns = map (mention table) ns

-- a list with one number more, unless it has it
abbrev pub with_number : List ℕ → ℕ → List ℕ
with_number seen n = if list_any (λ m. n == m) seen then seen else seen ++ n ∷ []

-- the column of a name, if it is there, after those that were seen
abbrev pub with_column : List ℕ → Option ℕ → List ℕ
with_column seen None = seen
with_column seen (Some c) = with_number seen c

abbrev pub first_seen : List ℕ → List Mention → List ℕ
first_seen seen [] = seen
first_seen seen (m ∷ ms) = first_seen (with_column seen m.column) ms

-- the columns of a query, by their places in the table, in the order in which the text first names them
abbrev pub columns_named : List ColumnHead → List Name → List ℕ
columns_named table ns = first_seen [] (mentions table ns)

-- the number of a column among those of a query, and 0 where it is not one of them
abbrev pub number_at : List ℕ → Option ℕ → ℕ
number_at columns None = 0
number_at columns (Some c) = unwrap_or (position (λ i. i == c) columns) 0

abbrev pub number_of : List ColumnHead → List ℕ → List ℕ → ℕ
number_of table columns name = number_at columns (place_of table name)

-- the kind of a column; where there is none of that place, whole numbers
abbrev pub kind_at : List ColumnHead → Option ℕ → Kind
kind_at table None = Int
kind_at table (Some c) = slice_index_or (map (λ h. h.kind) table) c Int

abbrev pub kind_of : List ColumnHead → List ℕ → Kind
kind_of table name = kind_at table (place_of table name)

abbrev pub dictionary_at : List ColumnHead → Option ℕ → List (List ℕ)
dictionary_at table None = []
dictionary_at table (Some c) = slice_index_or (map (λ h. h.names) table) c []

abbrev pub dictionary_of : List ColumnHead → List ℕ → List (List ℕ)
dictionary_of table name = dictionary_at table (place_of table name)
