-- The rows of an average over a bare column, by the planes of the column: which are certain, which are uncertain, and which an end reaches.
use Rattle.std.specs.Prelude.{◌≡◌, ℕ, ◌-◌, ◌*◌, ◌^◌, ◌<◌, ◌≤◌, min, ℤ}
use Rattle.std.specs.Prelude.{pos, ◌+ℤ◌, ◌-ℤ◌, ◌*ℤ◌, nat_abs, nat_le, nat_lt, int_lt}
use Rattle.std.specs.Prelude.{Bool, true, false, not, cond, ◌&&◌, List, length, map, slice_index_or}
use Rattle.std.specs.declared.option.Option.{Option}
use Rattle.std.specs.declared.option.Option.TheVariants.{Some, None}
use Rattle.std.specs.List.{count_by, range_with_len}
use Rattle.std.specs.Simd.Lanes.{zip2}
use Rattle.interval_calc.specs.declared.Fraction.{Fraction}
use Rattle.daq_table.specs.Tables.{ends_at}
use Rattle.query_model.specs.Bounds.{Pair}
use Rattle.query_model.specs.Knowledge.{is_legal, known_at, range_of}
use Rattle.query_model.specs.Queries.{Column}
use Rattle.plane_kernels.specs.Rows.{greater_rows, less_rows}
use Rattle.known_column.specs.Columns.{KnownColumn, is_at_top, is_possible, number_of, rows_where}
use Rattle.aggregates.specs.Selections.{block_of, sum_where}
use Rattle.round_engine.specs.Stages.{Stage}
use Rattle.avg_exact.specs.declared.passes.End.{End}
use Rattle.avg_exact.specs.declared.passes.End.TheVariants.{Low, High}
use Rattle.avg_exact.specs.declared.planes.Measure.{Measure}
use Rattle.avg_exact.specs.declared.planes.Part.{Part}
use Rattle.avg_exact.specs.declared.planes.Part.TheVariants.{Certain, Reached}
use Rattle.avg_exact.specs.ExactAverages.{negative}
use Rattle.avg_exact.specs.Passes.{IsAveraged, end_value, item_at, seen_at}

-- the argument of the average is this column
pub record IsOverColumn (stage : Stage) (item c : ℕ) : Type 0 where
  pub averaged : IsAveraged stage item
  pub arg : (item_at stage item).arg ≡ Column c
  pub column : c < length stage.frame.columns

abbrev pub column_of : Stage → ℕ → KnownColumn
column_of stage c = record { ends = ends_at stage.frame c; known = known_at stage.known c }

-- ---- lists of rows

abbrev pub is_sure_row : Option Pair → Bool
is_sure_row None = false
is_sure_row (Some p) = p.certain

abbrev pub is_unsure_row : Option Pair → Bool
is_unsure_row None = false
is_unsure_row (Some p) = not p.certain

abbrev pub rows_with : Stage → ℕ → (Option Pair → Bool) → List Bool
rows_with stage item test = map (λ r. test (seen_at stage item High r)) (range_with_len 0 stage.frame.rows)

-- an end reaches the numbers from one on, or up to one
abbrev pub reaches : End → ℕ → ℕ → Bool
reaches Low t n = nat_le n t
reaches High t n = nat_le t n

abbrev pub lies_beyond : End → ℕ → ℕ → Bool
lies_beyond Low t n = nat_lt n t
lies_beyond High t n = nat_lt t n

abbrev pub reached_rows : End → ℕ → KnownColumn → List Bool → List Bool
reached_rows end t column rows =
    zip2 (λ has p. has && reaches end t (number_of column.ends column.known.read p)) rows column.known.prefixes

abbrev pub part_rows : Stage → ℕ → ℕ → Part → List Bool
part_rows stage item c Certain = rows_with stage item is_sure_row
part_rows stage item c (Reached end t) = reached_rows end t (column_of stage c) (rows_with stage item is_unsure_row)

-- a number has no more digits than were read of the column
abbrev pub IsShort : KnownColumn → ℕ → Type 0
IsShort column t = t < 2 ^ (column.known.read - min (cond column.ends.nullable 1 0) column.known.read)

-- a block that is not marked has no uncertain row
abbrev pub MarkUncertain : Stage → ℕ → List Bool → Type 0
MarkUncertain stage item blocks =
    (block : ℕ) → 512 * block < stage.frame.rows → slice_index_or blocks block false ≡ false →
    count_by (λ b. b) (block_of block (rows_with stage item is_unsure_row)) ≡ 0

-- blocks that are not marked are passed over where uncertain rows are asked for
abbrev pub is_passed_over : Part → List Bool → ℕ → Bool
is_passed_over Certain blocks block = false
is_passed_over (Reached end t) blocks block = not (slice_index_or blocks block false)

-- the part of a column in a block
abbrev pub block_column : KnownColumn → ℕ → KnownColumn
block_column column block = record {
  ends = column.ends;
  known = record { read = column.known.read; prefixes = block_of block column.known.prefixes };
}

-- ---- what some rows come to

-- their number, their digits added up as numbers, and how many are at top's prefix
pub record IsMeasure (column : KnownColumn) (rows : List Bool) (measure : Measure) : Type 0 where
  pub rows_is : measure.rows ≡ count_by (λ b. b) rows
  pub numbers : measure.numbers ≡ sum_where rows (map (number_of column.ends column.known.read) column.known.prefixes)
  pub at_top : measure.at_top ≡ count_by (λ b. b) (zip2 (λ a b. a && b) rows (rows_where is_at_top column))

-- ---- comparisons, digit by digit

-- these, and those of the second list whose digit lies beyond this one
abbrev pub beyond_rows : End → Bool → List Bool → List Bool → List Bool → List Bool
beyond_rows Low digit beyond level digits = less_rows digit beyond level digits
beyond_rows High digit beyond level digits = greater_rows digit beyond level digits

abbrev pub IsShortPart : KnownColumn → Part → Type 0
IsShortPart column Certain = Unit {0}
IsShortPart column (Reached end t) = IsShort column t

-- ---- thresholds

-- a row of this prefix may have a value
abbrev pub IsValued : KnownColumn → ℕ → Type 0
IsValued column p = (is_legal column.ends column.known.read p ≡ true) × (is_possible column.ends column.known.read p ≡ true)

abbrev pub value_in : End → KnownColumn → ℕ → ℤ
value_in end column p = end_value end (range_of column.ends column.known.read p).numbers

abbrev pub lies_above : Fraction → ℤ → Bool
lies_above f v = int_lt f.num (v *ℤ pos f.den)

-- how far above base a number lies, as an end sees it
abbrev pub turned : End → ℤ → ℤ
turned Low z = negative z
turned High z = z

-- the distance from base from which on, or up to which, an end lies above a whole number; none where it nowhere does
abbrev pub IsDistance : End → ℤ → ℤ → ℤ → Option ℕ → Type 0
IsDistance end base top floor None = (w : ℕ) → w ≤ nat_abs (top -ℤ base) → int_lt floor (turned end (base +ℤ pos w)) ≡ false
IsDistance end base top floor (Some z) =
    (z ≤ nat_abs (top -ℤ base))
    × ((w : ℕ) → w ≤ nat_abs (top -ℤ base) → int_lt floor (turned end (base +ℤ pos w)) ≡ reaches end z w)

-- the number from which on, or up to which, an end reaches the rows above a fraction; none where no row lies above it
abbrev pub IsThreshold : KnownColumn → End → Fraction → Option ℕ → Type 0
IsThreshold column end over None = (p : ℕ) → IsValued column p → lies_above over (value_in end column p) ≡ false
IsThreshold column end over (Some t) =
    IsShort column t
    × ((p : ℕ) → IsValued column p → lies_above over (value_in end column p) ≡ reaches end t (number_of column.ends column.known.read p))
