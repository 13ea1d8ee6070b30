-- What the rows that a measure was taken of come to at an end.
use Rattle.std.specs.Prelude.{ℕ, ◌+◌, ◌-◌, ◌*◌, ◌^◌, ◌%◌, ◌≤◌, ℤ, pos, ◌+ℤ◌, ◌*ℤ◌, Bool, List}
use Rattle.daq_table.specs.Tables.{planes, spread}
use Rattle.query_model.specs.Answers.{total}
use Rattle.known_column.specs.Columns.{KnownColumn}
use Rattle.aggregates.specs.Selections.{highs_in, lows_in}
use Rattle.avg_exact.specs.declared.passes.End.{End}
use Rattle.avg_exact.specs.declared.passes.End.TheVariants.{Low, High}
use Rattle.avg_exact.specs.declared.planes.Measure.{Measure}
use Rattle.avg_exact.specs.ExactAverages.{negative}

-- ---- sums

-- what is added up fits
pub record IsFewMeasure (column : KnownColumn) (measure : Measure) : Type 0 where
  pub rows : measure.rows ≤ 16777216
  pub at_top : measure.at_top ≤ measure.rows
  pub numbers : measure.numbers * 2 ^ (planes column.ends - column.known.read) ≤ 2 ^ 89
  pub digits : planes column.ends ≤ 65

-- the low ends, and how far the high ends lie above them: at top's prefix as far as top, elsewhere by all that is not read
abbrev pub low_sum : KnownColumn → Measure → ℤ
low_sum column measure = (column.ends.base *ℤ pos measure.rows) +ℤ pos (measure.numbers * 2 ^ (planes column.ends - column.known.read))

abbrev pub widened : KnownColumn → Measure → ℕ
widened column measure =
    measure.at_top * (spread column.ends % 2 ^ (planes column.ends - column.known.read))
    + (measure.rows - measure.at_top) * (2 ^ (planes column.ends - column.known.read) - 1)

abbrev pub sum_at : End → KnownColumn → Measure → ℤ
sum_at Low column measure = negative (low_sum column measure)
sum_at High column measure = low_sum column measure +ℤ pos (widened column measure)

-- the ends at some rows, added up
abbrev pub end_total : End → KnownColumn → List Bool → ℤ
end_total Low column rows = negative (total (lows_in column rows))
end_total High column rows = total (highs_in column rows)
