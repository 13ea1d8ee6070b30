-- The sums and the numbers of values that a query of totals or groups asks for beside its averages.
use Rattle.std.specs.Prelude.{◌≡◌, ℕ, ◌==◌, Bool, false, ◌&&◌, List, length, map}
use Rattle.std.specs.declared.option.Option.{Option}
use Rattle.std.specs.declared.option.Option.TheVariants.{Some, None}
use Rattle.std.specs.List.{position}
use Rattle.std.specs.Ordering.{int_eq}
use Rattle.std.specs.Str.{bytes_eq}
use Rattle.query_model.specs.declared.query.ItemKind.{ItemKind}
use Rattle.sql_text.specs.declared.tree.CallKind.TheVariants as calls
use Rattle.sql_text.specs.Tree.{Item, Call, Expr, Column, Number, Add, Sub, Mul, Query}
use Rattle.query_kinds.specs.Kinds.{Asks, IsOfItems, IsQueryLine}
use Rattle.query_kinds.specs.declared.beside.Beside.{Beside}

-- two expressions say the same, wherever they stand in the text
abbrev pub says_same : Expr → Expr → Bool
says_same (Column m) (Column n) = bytes_eq m.name n.name
says_same (Number m) (Number n) = int_eq m.units n.units && (m.scale == n.scale)
says_same (Add a b) (Add c d) = says_same a c && says_same b d
says_same (Sub a b) (Sub c d) = says_same a c && says_same b d
says_same (Mul i a b) (Mul j c d) = says_same a c && says_same b d
says_same a b = false

-- the sum of an expression, and the number of its values
abbrev pub is_sum_of : Expr → Item → Bool
is_sum_of argument (Call calls.Sum other) = says_same argument other
is_sum_of argument item = false

abbrev pub is_count_of : Expr → Item → Bool
is_count_of argument (Call calls.Count other) = says_same argument other
is_count_of argument item = false

-- both places, where there are both
abbrev pub beside_at : Option ℕ → Option ℕ → Option Beside
beside_at (Some sum) (Some count) = Some (record { sum = sum; count = count })
beside_at (Some sum) None = None
beside_at None count = None

-- the first sum and the first number of values of an expression, if these items have both
abbrev pub beside_average : List Item → Expr → Option Beside
beside_average items argument = beside_at (position (is_sum_of argument) items) (position (is_count_of argument) items)

-- those of what an average is of
abbrev pub beside_in : List Item → Item → Option Beside
beside_in items (Call calls.Avg argument) = beside_average items argument
beside_in items item = None

-- the line is that of a query of totals or groups, and this stands beside each of its aggregates
pub record AsksBeside (line : List ℕ) (besides : List (Option Beside)) : Type 0 where
  pub query : Query
  pub is_line : IsQueryLine line query
  pub columns : ℕ
  pub items : List Item
  pub of_items : IsOfItems query columns items
  pub each : besides ≡ map (beside_in items) items

-- ---- laws

pub record BesidesAreOne : Type 0 where
  pub same : (line : List ℕ) (one other : List (Option Beside)) → AsksBeside line one → AsksBeside line other → one ≡ other
  pub as_many : (line : List ℕ) (kinds : List ItemKind) (columns : ℕ) (besides : List (Option Beside)) → Asks line kinds columns →
      AsksBeside line besides → length besides ≡ length kinds
