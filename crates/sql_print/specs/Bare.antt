-- The same query but for places.
use Rattle.std.specs.Prelude.{map, Option, Some, None}
use Rattle.sql_text.specs.declared.tree.Num.{Num}
use Rattle.sql_text.specs.Tree.{Name, Expr, Column, Number, Add, Sub, Mul, Item, Plain, CountAll, Call, Head}
use Rattle.sql_text.specs.Tree.{Items, Star, Operand, Numeric, Str, Day, Pred, Compare, Columns, Between}
use Rattle.sql_text.specs.Tree.{OneOf, IsNull, Negation, Both, Either, Ending, Nothing, Grouped, Ordered, Query}

abbrev pub bare_name : Name → Name
bare_name n = record { at = 0; name = n.name }

abbrev pub bare_num : Num → Num
bare_num n = record { at = 0; units = n.units; scale = n.scale }

abbrev pub bare_expr : Expr → Expr
bare_expr (Column n) = Column (bare_name n)
bare_expr (Number n) = Number (bare_num n)
bare_expr (Add a b) = Add (bare_expr a) (bare_expr b)
bare_expr (Sub a b) = Sub (bare_expr a) (bare_expr b)
bare_expr (Mul at a b) = Mul 0 (bare_expr a) (bare_expr b)

abbrev pub bare_item : Item → Item
bare_item (Plain n) = Plain (bare_name n)
bare_item CountAll = CountAll
bare_item (Call kind e) = Call kind (bare_expr e)

abbrev pub bare_head : Head → Head
bare_head (Items is) = Items (map bare_item is)
bare_head Star = Star

abbrev pub bare_operand : Operand → Operand
bare_operand (Numeric n) = Numeric (bare_num n)
bare_operand (Str s) = Str (bare_name s)
bare_operand (Day s) = Day (bare_name s)

abbrev pub bare_pred : Pred → Pred
bare_pred (Compare c op v) = Compare (bare_name c) op (bare_operand v)
bare_pred (Columns c op d) = Columns (bare_name c) op (bare_name d)
bare_pred (Between c low high) = Between (bare_name c) (bare_operand low) (bare_operand high)
bare_pred (OneOf c vs) = OneOf (bare_name c) (map bare_operand vs)
bare_pred (IsNull c) = IsNull (bare_name c)
bare_pred (Negation a) = Negation (bare_pred a)
bare_pred (Both a b) = Both (bare_pred a) (bare_pred b)
bare_pred (Either a b) = Either (bare_pred a) (bare_pred b)

abbrev pub bare_filter : Option Pred → Option Pred
bare_filter None = None
bare_filter (Some a) = Some (bare_pred a)

abbrev pub bare_ending : Ending → Ending
bare_ending Nothing = Nothing
bare_ending (Grouped ns) = Grouped (map bare_name ns)
bare_ending (Ordered key down limit) = Ordered (bare_name key) down (bare_num limit)

abbrev pub bare : Query → Query
bare q = record { head = bare_head q.head; table = bare_name q.table; pred = bare_filter q.pred; ending = bare_ending q.ending }
