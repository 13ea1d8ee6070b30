-- Which rows of a table are among the first in an order.
use Rattle.std.specs.Prelude.{ℕ, nat_lt, Bool, true, false, ◌&&◌, ◌||◌, if◌then◌else◌, length, filter}
use Rattle.std.specs.declared.option.Option.{Option}
use Rattle.std.specs.declared.option.Option.TheVariants.{Some, None}
use Rattle.std.specs.List.{range_with_len}
use Rattle.query_model.specs.Meaning.{is_sql_true}
use Rattle.sql_text.specs.declared.tree.Num.{Num}
use Rattle.sql_text.specs.Tree.{Name, Pred}
use Rattle.sql_meaning.specs.Values.{Value, Number}
use Rattle.sql_meaning.specs.Conditions.{Row, decimal_of, truth_of_where}
use Rattle.sql_meaning.specs.Answers.{is_after, is_same, whole}

-- what is asked for: a condition, the column by which rows are put in order, whether the greatest comes first, and how many rows
pub record Order : Type 0 where
  pub pred : Option Pred
  pub key : Name
  pub down : Bool
  pub limit : Num

-- one value comes before another; null comes last, upwards and downwards
abbrev pub comes_first : Bool → Option Value → Option Value → Bool
comes_first down None v = false
comes_first down (Some u) None = true
comes_first down (Some u) (Some v) = if down then is_after u v else is_after v u

-- the condition is true at row y of a table, and y comes before x: of rows with equal values the one that stands first does
abbrev pub is_before : Order → (ℕ → Row) → ℕ → ℕ → Bool
is_before order rows y x =
    is_sql_true (truth_of_where order.pred (rows y))
    && (comes_first order.down (rows y order.key.name) (rows x order.key.name)
    || (is_same (rows y order.key.name) (rows x order.key.name) && nat_lt y x))

-- how many of so many rows come before x
abbrev pub rows_before : Order → (ℕ → Row) → ℕ → ℕ → ℕ
rows_before order rows count x = length (filter (λ y. is_before order rows y x) (range_with_len 0 count))

-- row x is among the first: the condition is true there, and fewer rows than the limit come before it
abbrev pub is_among_first : Order → (ℕ → Row) → ℕ → ℕ → Bool
is_among_first order rows count x =
    is_sql_true (truth_of_where order.pred (rows x))
    && is_after (Number (decimal_of order.limit)) (whole (rows_before order rows count x))
