-- Sums of many cells over a bare column, by the digits of its numbers.
use Rattle.std.specs.Prelude.{◌≡◌, ℕ, ◌<◌, Bool, List, length, slice_get, take}
use Rattle.std.specs.declared.option.Option.TheVariants.{Some}
use Rattle.aggregates.specs.Runnings.{Tallies}
use Rattle.digit_sums.specs.Digits.{AreEndsOf, AreOf, DigitTallies}
use Rattle.known_column.specs.Columns.{KnownColumn, rows_of_column}
use Rattle.known_column.specs.KnownTables.{KnownTable, column_at}
use Rattle.query_model.specs.declared.bounds.Nullity.TheVariants.{Never}
use Rattle.query_model.specs.Knowledge.{ranges_of}
use Rattle.query_model.specs.Queries.{Aggregate, Column}
use Rattle.query_model.specs.Truths.{null_of}
use Rattle.round_engine.specs.CellAnswers.{StandBelow, StandForCells}
use Rattle.round_engine.specs.Cells.{cells_in}
use Rattle.round_engine.specs.Stages.{Stage}

-- the item's argument is the column that is known so
pub record IsOverColumn (item : Aggregate) (columns : KnownTable) (known : KnownColumn) : Type 0 where
  pub column : ℕ
  pub arg : item.arg ≡ Column column
  pub within : column < length columns.frame.columns
  pub is : known ≡ column_at columns column
  pub rows : rows_of_column known ≡ columns.frame.rows

-- what is kept is that of cells each of which stands for the item's pairs of its rows below a number, by the column's ends as far as they
-- are known, and it is told of each whether its rows count for certain
pub record AreDigitSums
    (stage : Stage) (item : Aggregate) (known : KnownColumn) (single : List Bool) (rows : ℕ) (sums : DigitTallies) : Type 0 where
  pub tallies : Tallies
  pub are : AreOf sums tallies
  pub stand : StandBelow stage item rows tallies
  pub ends : AreEndsOf known sums.ends
  pub certain : sums.certain ≡ take (cells_in stage) single

-- the item's argument is null at no row, and each cell stands for the item's pairs of all its rows
pub record AreToldByDigits (stage : Stage) (item : Aggregate) (sums : DigitTallies) : Type 0 where
  pub never_null : (row : ℕ) → null_of item.arg (ranges_of stage.frame stage.known row) ≡ Never
  pub stand : StandForCells stage item sums.tallies

-- of some item, or of the query's item of this number
pub record AreSomeTold (stage : Stage) (sums : DigitTallies) : Type 0 where
  pub item : Aggregate
  pub told : AreToldByDigits stage item sums

pub record IsTold (stage : Stage) (number : ℕ) (sums : DigitTallies) : Type 0 where
  pub item : Aggregate
  pub at : slice_get stage.query.items number ≡ Some item
  pub told : AreToldByDigits stage item sums
