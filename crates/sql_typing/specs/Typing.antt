-- The typed query of a tree on a table with a head, where nothing refuses it.
use Rattle.std.specs.Prelude.{ℕ, zero, suc, ◌+◌, ◌-◌, ◌^◌, max, ℤ, pos, negsuc, ◌*ℤ◌, ◌-ℤ◌}
use Rattle.std.specs.Prelude.{nat_abs, Bool, true, false, if◌then◌else◌, List, [], ◌∷◌, map, Option, Some, None}
use Rattle.std.specs.Cmp.Lexicographic.{slice_cmp}
use Rattle.std.specs.List.{count_by, filter_map, list_any}
use Rattle.std.specs.Ordering.{nat_cmp, is_lt}
use Rattle.std.specs.Str.{bytes_eq}
use Rattle.daq_table.specs.CellTexts.{date_value}
use Rattle.daq_table.specs.declared.head.ColumnHead.{ColumnHead}
use Rattle.daq_table.specs.declared.head.Kind.{Kind}
use Rattle.query_model.specs.Queries.{Term, Column, Literal, Add, Sub, Mul, Condition, All}
use Rattle.query_model.specs.Queries.{Single, Both, Either, Negation, Aggregate, Query}
use Rattle.query_model.specs.declared.query.Atom.{Atom}
use Rattle.query_model.specs.declared.query.Atom.TheVariants as atoms
use Rattle.query_model.specs.declared.query.Face.{Face}
use Rattle.query_model.specs.declared.query.Face.TheVariants as faces
use Rattle.query_model.specs.declared.query.ItemKind.{ItemKind}
use Rattle.query_model.specs.declared.query.ItemKind.TheVariants as kinds
use Rattle.query_model.specs.declared.query.Comparison.{Comparison}
use Rattle.query_model.specs.declared.query.Comparison.TheVariants as ops
use Rattle.query_model.specs.declared.query.Shape.{Shape}
use Rattle.query_model.specs.declared.query.Shape.TheVariants as shapes
use Rattle.sql_text.specs.declared.tree.CallKind.{CallKind}
use Rattle.sql_text.specs.declared.tree.CallKind.TheVariants as calls
use Rattle.sql_text.specs.declared.tree.Comparison as written
use Rattle.sql_text.specs.declared.tree.Comparison.TheVariants as cmps
use Rattle.sql_text.specs.Tree as tree
use Rattle.sql_text.specs.Tree.{Name}
use Rattle.sql_typing.specs.declared.spot.Spot.{Spot}
use Rattle.sql_typing.specs.declared.spot.Spot.TheVariants.{At, Before}
use Rattle.sql_typing.specs.Kinds.{is_day, scale_of_kind}
use Rattle.sql_typing.specs.Names.{columns_named, dictionary_of, kind_of, names_in, number_of, with_number}

-- ---- expressions

-- the decimals of an expression's value; texts and dates have none
abbrev pub scale_of : List ColumnHead → tree.Expr → ℕ
scale_of table (tree.Column n) = scale_of_kind (kind_of table n.name)
scale_of table (tree.Number v) = v.scale
scale_of table (tree.Add a b) = max (scale_of table a) (scale_of table b)
scale_of table (tree.Sub a b) = max (scale_of table a) (scale_of table b)
scale_of table (tree.Mul at a b) = scale_of table a + scale_of table b

abbrev pub literal_of : Term → Option ℤ
literal_of (Column c) = None
literal_of (Literal n) = Some n
literal_of (Add a b) = None
literal_of (Sub a b) = None
literal_of (Mul a b) = None

-- a literal is multiplied at once
abbrev pub multiplied : ℕ → Option ℤ → Term → Term
multiplied n None t = Mul t (Literal (pos n))
multiplied n (Some v) t = Literal (v *ℤ pos n)

-- the same value in units of so many decimals more
abbrev pub raised : ℕ → Term → Term
raised zero t = t
raised (suc d) t = multiplied (10 ^ suc d) (literal_of t) t

-- numbers are in units of their last decimal
abbrev pub typed_expr : List ColumnHead → List ℕ → tree.Expr → Term
typed_expr table columns (tree.Column n) = Column (number_of table columns n.name)
typed_expr table columns (tree.Number v) = Literal v.units
typed_expr table columns (tree.Add a b) =
    Add (raised (scale_of table b - scale_of table a) (typed_expr table columns a))
    (raised (scale_of table a - scale_of table b) (typed_expr table columns b))
typed_expr table columns (tree.Sub a b) =
    Sub (raised (scale_of table b - scale_of table a) (typed_expr table columns a))
    (raised (scale_of table a - scale_of table b) (typed_expr table columns b))
typed_expr table columns (tree.Mul at a b) = Mul (typed_expr table columns a) (typed_expr table columns b)

-- the sides of a sum or a difference in units of the same decimal: that of fewer decimals is raised
abbrev pub typed_sides : List ColumnHead → List ℕ → tree.Expr → tree.Expr → Term × Term
typed_sides table columns a b = (
  raised (scale_of table b - scale_of table a) (typed_expr table columns a),
  raised (scale_of table a - scale_of table b) (typed_expr table columns b),
)

-- ---- aggregates

abbrev pub kind_of_call : CallKind → ItemKind
kind_of_call calls.Sum = kinds.Sum
kind_of_call calls.Avg = kinds.Avg
kind_of_call calls.Min = kinds.Min
kind_of_call calls.Max = kinds.Max
kind_of_call calls.Count = kinds.Count

-- COUNT, MIN and MAX take a column of any kind
abbrev pub takes_all_kinds : CallKind → Bool
takes_all_kinds calls.Sum = false
takes_all_kinds calls.Avg = false
takes_all_kinds calls.Min = true
takes_all_kinds calls.Max = true
takes_all_kinds calls.Count = true

abbrev pub bare_column : tree.Expr → Option Name
bare_column (tree.Column n) = Some n
bare_column (tree.Number v) = None
bare_column (tree.Add a b) = None
bare_column (tree.Sub a b) = None
bare_column (tree.Mul at a b) = None

-- the column that is the whole argument of COUNT, MIN or MAX
abbrev pub whole_column : CallKind → tree.Expr → Option Name
whole_column kind e = if takes_all_kinds kind then bare_column e else None

-- a value is printed as one of its column, where it is that of a column, else as a number of so many decimals
abbrev pub value_face : List ColumnHead → List ℕ → Option Name → ℕ → Face
value_face table columns None scale = faces.Number scale
value_face table columns (Some n) scale = faces.OfColumn (number_of table columns n.name)

-- a count is a whole number; the least and the greatest value of a column are values of it; other answers have the decimals of the argument
abbrev pub face_of : List ColumnHead → List ℕ → CallKind → tree.Expr → Face
face_of table columns calls.Sum e = faces.Number (scale_of table e)
face_of table columns calls.Avg e = faces.Number (scale_of table e)
face_of table columns calls.Min e = value_face table columns (bare_column e) (scale_of table e)
face_of table columns calls.Max e = value_face table columns (bare_column e) (scale_of table e)
face_of table columns calls.Count e = faces.Number 0

abbrev pub typed_call : List ColumnHead → List ℕ → CallKind → tree.Expr → Aggregate
typed_call table columns kind e = record {
  kind = kind_of_call kind;
  arg = typed_expr table columns e;
  face = face_of table columns kind e;
}

-- COUNT(*)
abbrev pub counted : Aggregate
counted = record { kind = kinds.Count; arg = Literal (pos 0); face = faces.Number 0 }

-- a name in the select list is no aggregate
abbrev pub typed_item : List ColumnHead → List ℕ → tree.Item → Option Aggregate
typed_item table columns (tree.Plain n) = None
typed_item table columns tree.CountAll = Some counted
typed_item table columns (tree.Call kind e) = Some (typed_call table columns kind e)

abbrev pub typed_head : List ColumnHead → List ℕ → tree.Head → List Aggregate
typed_head table columns (tree.Items is) = filter_map (typed_item table columns) is
typed_head table columns tree.Star = []

-- the aggregates of a query; rows in an order have none
abbrev pub typed_items : List ColumnHead → List ℕ → tree.Ending → tree.Head → List Aggregate
typed_items table columns tree.Nothing head = typed_head table columns head
typed_items table columns (tree.Grouped ns) head = typed_head table columns head
typed_items table columns (tree.Ordered key down limit) head = []

-- ---- values

-- how many names of a dictionary come before the text: its rank, where it is one of them
abbrev pub names_below : List (List ℕ) → List ℕ → ℕ
names_below names text = count_by (λ name. is_lt (slice_cmp nat_cmp name text)) names

abbrev pub is_name : List (List ℕ) → List ℕ → Bool
is_name names text = list_any (λ name. bytes_eq name text) names

abbrev pub spot_of_text : List (List ℕ) → List ℕ → Spot
spot_of_text names text = if is_name names text then At (pos (names_below names text)) else Before (names_below names text)

-- the number that a value is in a column, or where it would stand among the ranks
abbrev pub spot_of : Kind → List (List ℕ) → tree.Operand → Spot
spot_of kind names (tree.Numeric n) = At (n.units *ℤ pos (10 ^ (scale_of_kind kind - n.scale)))
spot_of kind names (tree.Str s) = if is_day kind then At (date_value s.name) else spot_of_text names s.name
spot_of kind names (tree.Day s) = At (date_value s.name)

-- no rank is -1
abbrev pub no_rank : ℤ
no_rank = negsuc 0

-- as an end of BETWEEN: a text that is no name stands between two ranks, so the low end is the next rank above it, and the high end the
-- next below
abbrev pub low_end : Spot → ℤ
low_end (At v) = v
low_end (Before p) = pos p

abbrev pub high_end : Spot → ℤ
high_end (At v) = v
high_end (Before p) = pos p -ℤ pos 1

-- as a member of IN: a text that is no name is that of no row
abbrev pub member : Spot → ℤ
member (At v) = v
member (Before p) = no_rank

-- ---- conditions

abbrev pub op_of : written.Comparison → Comparison
op_of cmps.Eq = ops.Eq
op_of cmps.Ne = ops.Ne
op_of cmps.Lt = ops.Lt
op_of cmps.Le = ops.Le
op_of cmps.Gt = ops.Gt
op_of cmps.Ge = ops.Ge

-- a text that is no name lies before the name of rank p: what is below it is below p, and nothing is equal to it
abbrev pub compared_before : ℕ → written.Comparison → ℕ → Atom
compared_before c cmps.Eq p = atoms.Compare c ops.Eq no_rank
compared_before c cmps.Ne p = atoms.Compare c ops.Ne no_rank
compared_before c cmps.Lt p = atoms.Compare c ops.Lt (pos p)
compared_before c cmps.Le p = atoms.Compare c ops.Lt (pos p)
compared_before c cmps.Gt p = atoms.Compare c ops.Ge (pos p)
compared_before c cmps.Ge p = atoms.Compare c ops.Ge (pos p)

abbrev pub compared : ℕ → written.Comparison → Spot → Atom
compared c op (At v) = atoms.Compare c (op_of op) v
compared c op (Before p) = compared_before c op p

abbrev pub spot_in : List ColumnHead → Name → tree.Operand → Spot
spot_in table n v = spot_of (kind_of table n.name) (dictionary_of table n.name) v

abbrev pub typed_pred : List ColumnHead → List ℕ → tree.Pred → Condition
typed_pred table columns (tree.Compare n op v) = Single (compared (number_of table columns n.name) op (spot_in table n v))
typed_pred table columns (tree.Columns l op r) =
    Single (atoms.CompareColumns (number_of table columns l.name) (op_of op) (number_of table columns r.name))
typed_pred table columns (tree.Between n low high) =
    Single (atoms.Between (number_of table columns n.name) (low_end (spot_in table n low)) (high_end (spot_in table n high)))
typed_pred table columns (tree.OneOf n vs) =
    Single (atoms.OneOf (number_of table columns n.name) (map (λ v. member (spot_in table n v)) vs))
typed_pred table columns (tree.IsNull n) = Single (atoms.IsNull (number_of table columns n.name))
typed_pred table columns (tree.Negation a) = Negation (typed_pred table columns a)
typed_pred table columns (tree.Both a b) = Both (typed_pred table columns a) (typed_pred table columns b)
typed_pred table columns (tree.Either a b) = Either (typed_pred table columns a) (typed_pred table columns b)

abbrev pub typed_filter : List ColumnHead → List ℕ → Option tree.Pred → Condition
typed_filter table columns None = All
typed_filter table columns (Some a) = typed_pred table columns a

-- ---- shapes

-- the numbers of the columns, each at its first place
abbrev pub distinct_after : List ℕ → List ℕ → List ℕ
distinct_after seen [] = seen
distinct_after seen (n ∷ ns) = distinct_after (with_number seen n) ns

abbrev pub group_columns : List ColumnHead → List ℕ → List Name → List ℕ
group_columns table columns ns = distinct_after [] (map (λ n. number_of table columns n.name) ns)

abbrev pub typed_ending : List ColumnHead → List ℕ → tree.Ending → Shape
typed_ending table columns tree.Nothing = shapes.Plain
typed_ending table columns (tree.Grouped ns) = shapes.Grouped (group_columns table columns ns)
typed_ending table columns (tree.Ordered key down limit) = shapes.Top (number_of table columns key.name) down (nat_abs limit.units)

-- ---- queries

abbrev pub columns_of : List ColumnHead → tree.Query → List ℕ
columns_of table q = columns_named table (names_in q)

-- the typed query with these columns
abbrev pub typed_with : List ColumnHead → List ℕ → tree.Query → Query
typed_with table columns q = record {
  columns = columns;
  items = typed_items table columns q.ending q.head;
  pred = typed_filter table columns q.pred;
  shape = typed_ending table columns q.ending;
}

abbrev pub typed : List ColumnHead → tree.Query → Query
typed table q = typed_with table (columns_of table q) q
