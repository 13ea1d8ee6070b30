-- Trees, apart from where they lie in memory.
use Rattle.std.specs.Prelude.{ℕ, List, map, Bool, Option, Some, None}
use Rattle.sql_text.specs.declared.tree.Named.{Named}
use Rattle.sql_text.specs.declared.tree.Num.{Num}
use Rattle.sql_text.specs.declared.tree.Comparison.{Comparison}
use Rattle.sql_text.specs.declared.tree.CallKind.{CallKind}
use Rattle.sql_text.specs.declared.tree.ExprTree.{ExprTree}
use Rattle.sql_text.specs.declared.tree.ExprTree.TheVariants as exprs
use Rattle.sql_text.specs.declared.tree.ItemTree.{ItemTree}
use Rattle.sql_text.specs.declared.tree.ItemTree.TheVariants as items
use Rattle.sql_text.specs.declared.tree.Select.{Select}
use Rattle.sql_text.specs.declared.tree.Select.TheVariants as selects
use Rattle.sql_text.specs.declared.tree.Value.{Value}
use Rattle.sql_text.specs.declared.tree.Value.TheVariants as values
use Rattle.sql_text.specs.declared.tree.PredTree.{PredTree}
use Rattle.sql_text.specs.declared.tree.PredTree.TheVariants as preds
use Rattle.sql_text.specs.declared.tree.Ending as tree
use Rattle.sql_text.specs.declared.tree.Ending.TheVariants as endings
use Rattle.sql_text.specs.declared.tree.Tree.{Tree}

-- a name, or the text of a string, and its place in the SQL text
pub record Name : Type 0 where
  pub at : ℕ
  pub name : List ℕ

-- what is computed of a row; a product has the place of its sign
pub data Expr : Type 0 where
  Column : Name → Expr
  Number : Num → Expr
  Add : Expr → Expr → Expr
  Sub : Expr → Expr → Expr
  Mul : (at : ℕ) → Expr → Expr → Expr

-- what stands in a list behind SELECT: a name, COUNT(*), or an aggregate of an expression
pub data Item : Type 0 where
  Plain : Name → Item
  CountAll : Item
  Call : CallKind → Expr → Item

-- what stands behind SELECT: such a list, or a star
pub data Head : Type 0 where
  Items : List Item → Head
  Star : Head

-- with what a column is compared: a number, a string, or the string of a day
pub data Operand : Type 0 where
  Numeric : Num → Operand
  Str : Name → Operand
  Day : Name → Operand

-- a condition. Both stands for AND, Either for OR, Negation for NOT, OneOf for IN
pub data Pred : Type 0 where
  Compare : Name → Comparison → Operand → Pred
  Columns : Name → Comparison → Name → Pred
  Between : Name → (low high : Operand) → Pred
  OneOf : Name → List Operand → Pred
  IsNull : Name → Pred
  Negation : Pred → Pred
  Both : Pred → Pred → Pred
  Either : Pred → Pred → Pred

-- nothing, GROUP BY some names, or ORDER BY a name, falling or not, with the number of LIMIT
pub data Ending : Type 0 where
  Nothing : Ending
  Grouped : List Name → Ending
  Ordered : Name → (down : Bool) → Num → Ending

-- a query: what is asked for, the name of the table, the condition of WHERE, and how it ends
pub record Query : Type 0 where
  pub head : Head
  pub table : Name
  pub pred : Option Pred
  pub ending : Ending

-- ---- what a tree of the program says

abbrev pub name_of : Named → Name
name_of n = record { at = n.at; name = n.name.items }

abbrev pub expr_of : ExprTree → Expr
expr_of (exprs.Column n) = Column (name_of n)
expr_of (exprs.Number n) = Number n
expr_of (exprs.Add' p l q r) = Add (expr_of l) (expr_of r)
expr_of (exprs.Sub' p l q r) = Sub (expr_of l) (expr_of r)
expr_of (exprs.Mul' at p l q r) = Mul at (expr_of l) (expr_of r)

abbrev pub item_of : ItemTree → Item
item_of (items.Column n) = Plain (name_of n)
item_of items.Count = CountAll
item_of (items.Call kind e) = Call kind (expr_of e)

abbrev pub head_of : Select → Head
head_of (selects.Items is) = Items (map item_of is.items)
head_of selects.Star = Star

abbrev pub operand_of : Value → Operand
operand_of (values.Number n) = Numeric n
operand_of (values.Str at s) = Str (record { at = at; name = s.items })
operand_of (values.Day at s) = Day (record { at = at; name = s.items })

abbrev pub pred_of : PredTree → Pred
pred_of (preds.Compare n op v) = Compare (name_of n) op (operand_of v)
pred_of (preds.Columns l op r) = Columns (name_of l) op (name_of r)
pred_of (preds.Between n low high) = Between (name_of n) (operand_of low) (operand_of high)
pred_of (preds.OneOf n vs) = OneOf (name_of n) (map operand_of vs.items)
pred_of (preds.IsNull n) = IsNull (name_of n)
pred_of (preds.Not' p a) = Negation (pred_of a)
pred_of (preds.And' p a q b) = Both (pred_of a) (pred_of b)
pred_of (preds.Or' p a q b) = Either (pred_of a) (pred_of b)

abbrev pub pred_option : Option PredTree → Option Pred
pred_option None = None
pred_option (Some a) = Some (pred_of a)

abbrev pub ending_of : tree.Ending → Ending
ending_of endings.Nothing = Nothing
ending_of (endings.Group ns) = Grouped (map name_of ns.items)
ending_of (endings.Order key down limit) = Ordered (name_of key) down limit

abbrev pub query_of : Tree → Query
query_of t = record { head = head_of t.head; table = name_of t.table; pred = pred_option t.pred; ending = ending_of t.ending }
