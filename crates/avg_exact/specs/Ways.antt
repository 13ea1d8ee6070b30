-- The rows of an average by the planes of the column that is its argument.
use Rattle.std.specs.Prelude.{◌≡◌, ℕ, ◌+◌, ◌-◌, ◌*◌, ◌^◌, ◌≤◌, min, ℤ, pos, ◌+ℤ◌, Bool, List, length}
use Rattle.std.specs.declared.option.Option.{Option}
use Rattle.std.specs.declared.option.Option.TheVariants.{Some}
use Rattle.std.specs.List.{count_by, filter}
use Rattle.std.specs.Option.{option_map}
use Rattle.interval_calc.specs.declared.Fraction.{Fraction}
use Rattle.daq_table.specs.Tables.{planes, spread}
use Rattle.query_model.specs.Answers.{total}
use Rattle.query_model.specs.Bounds.{Pair, highs}
use Rattle.known_column.specs.Columns.{KnownColumn}
use Rattle.aggregates.specs.Selections.{IsSmallSum}
use Rattle.round_engine.specs.Stages.{Stage}
use Rattle.avg_exact.specs.declared.passes.End.{End}
use Rattle.avg_exact.specs.declared.passes.End.TheVariants.{Low, High}
use Rattle.avg_exact.specs.declared.passes.Tally.{Tally}
use Rattle.avg_exact.specs.declared.planes.Part.{Part}
use Rattle.avg_exact.specs.declared.planes.Part.TheVariants.{Certain, Reached}
use Rattle.avg_exact.specs.declared.ways.Way.{Way}
use Rattle.avg_exact.specs.declared.ways.Planes.{Planes}
use Rattle.avg_exact.specs.declared.ways.Way.TheVariants.{Planes as ByPlanes, Rows}
use Rattle.avg_exact.specs.Blocks.{IsMeasure, IsOverColumn, MarkUncertain, column_of, is_unsure_row, part_rows, rows_with}
use Rattle.avg_exact.specs.ExactAverages.{Cut, negative}
use Rattle.avg_exact.specs.Furthest.{IsFurthest}
use Rattle.avg_exact.specs.Measures.{end_total}
use Rattle.avg_exact.specs.Passes.{is_taken}

-- the argument is that column, with the measure of its certain rows, and its uncertain rows
pub record ArePlanes (stage : Stage) (item : ℕ) (planes : Planes) : Type 0 where
  pub over : IsOverColumn stage item planes.column
  pub certain : IsMeasure (column_of stage planes.column) (part_rows stage item planes.column Certain) planes.certain
  pub blocks : MarkUncertain stage item planes.uncertain.blocks
  pub rows : planes.uncertain.rows ≡ count_by (λ b. b) (rows_with stage item is_unsure_row)

abbrev pub IsWay : Stage → ℕ → Way → Type 0
IsWay stage item (ByPlanes planes) = ArePlanes stage item planes
IsWay stage item Rows = Unit {0}

-- ---- tallies

abbrev pub taken_of : Part → ℕ → ℕ
taken_of Certain rows = 0
taken_of (Reached end t) rows = rows

-- of some rows
abbrev pub part_tally : End → KnownColumn → Part → List Bool → Tally
part_tally end column part rows = record {
  sum = end_total end column rows;
  rows = count_by (λ b. b) rows;
  taken = taken_of part (count_by (λ b. b) rows);
}

-- of the uncertain rows above a fraction
abbrev pub taken_tally : Fraction → List Pair → Tally
taken_tally over ps = record {
  sum = total (highs (filter (is_taken (Some over)) ps));
  rows = length (filter (is_taken (Some over)) ps);
  taken = length (filter (is_taken (Some over)) ps);
}

-- two of them can be added
pub record IsSmallTally (tally : Tally) : Type 0 where
  pub sum : IsSmallSum tally.sum
  pub rows : tally.rows ≤ 16777216
  pub taken : tally.taken ≤ 16777216

-- ---- values by numbers

-- the digits that were read of a number of the column
pub record IsNumberOf (column : KnownColumn) (n : ℕ) : Type 0 where
  pub few : n * 2 ^ (planes column.ends - column.known.read) ≤ spread column.ends

-- an end of the range of the numbers with these digits; from the low end it is negated
abbrev pub number_value : End → KnownColumn → ℕ → ℤ
number_value Low column n = negative (column.ends.base +ℤ pos (n * 2 ^ (planes column.ends - column.known.read)))
number_value High column n =
    let d = planes column.ends - column.known.read in
    column.ends.base +ℤ pos (min (n * 2 ^ d + (2 ^ d - 1)) (spread column.ends))

abbrev pub opposite : End → End
opposite Low = High
opposite High = Low

-- that value of the number which lies furthest at some rows
pub record IsFurthestValue (toward end : End) (column : KnownColumn) (rows : List Bool) (value : Cut) : Type 0 where
  pub found : Option ℕ
  pub furthest : IsFurthest toward column rows found
  pub is : value ≡ option_map (number_value end column) found
