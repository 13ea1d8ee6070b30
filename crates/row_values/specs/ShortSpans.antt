-- Intervals whose ends are numbers of 64 bits.
use Rattle.std.specs.Prelude.{◌≡◌, ℕ, ℤ, ◌+◌, ◌*◌, ◌<◌, List, length, slice_get, IsTrue, FitsSigned}
use Rattle.std.specs.declared.option.Option.TheVariants.{Some}
use Rattle.std.specs.Int.{w64}
use Rattle.aggregates.specs.SumsOfCells.{FitsCell}
use Rattle.interval_calc.specs.Intervals.{Interval, only, difference_of, product_of, sum_of}
use Rattle.known_column.specs.Columns.{KnownColumn, count_in_block, missing_at, numbers_at}
use Rattle.known_column.specs.KnownTables.{KnownTable}
use Rattle.query_model.specs.Knowledge.{ranges_of}
use Rattle.query_model.specs.Queries.{Term, Column, Literal, Add, Sub, Mul}
use Rattle.query_model.specs.Truths.{Ranges, IsInside, may_be_number, null_of, span_of}
use Rattle.query_model.specs.Validity.{declared_range, declared_ranges}
use Rattle.row_values.specs.declared.short_arithmetic.Operation.{Operation}
use Rattle.row_values.specs.declared.short_arithmetic.Operation.TheVariants.{Sum, Difference, Product}
use Rattle.row_values.specs.declared.short.ShortInterval.{ShortInterval}

-- the interval that a short one is
abbrev pub interval_of : ShortInterval → Interval
interval_of span = record { low = span.lo; high = span.hi }

-- both ends are numbers of 64 bits
abbrev pub IsShort : Interval → Type 0
IsShort i = FitsSigned w64 i.low × FitsSigned w64 i.high

-- no value of the expression or of a part of it can leave 64 bits
abbrev pub FitsShort : Term → Ranges → Type 0
FitsShort (Column c) ranges = IsShort (ranges c).numbers
FitsShort (Literal n) ranges = FitsSigned w64 n
FitsShort (Add a b) ranges = FitsShort a ranges × FitsShort b ranges × IsShort (span_of (Add a b) ranges)
FitsShort (Sub a b) ranges = FitsShort a ranges × FitsShort b ranges × IsShort (span_of (Sub a b) ranges)
FitsShort (Mul a b) ranges = FitsShort a ranges × FitsShort b ranges × IsShort (span_of (Mul a b) ranges)

-- and none of the expression is so large that its sum over the rows of a table leaves them
pub record FitsCells (term : Term) (ranges : Ranges) : Type 0 where
  pub short : FitsShort term ranges
  pub cell : FitsCell (span_of term ranges).low (span_of term ranges).high

-- what an operation makes of two intervals
abbrev pub result_of : Operation → Interval → Interval → Interval
result_of Sum i j = sum_of i j
result_of Difference i j = difference_of i j
result_of Product i j = product_of i j

-- an expression of two others
abbrev pub term_with : Operation → Term → Term → Term
term_with Sum a b = Add a b
term_with Difference a b = Sub a b
term_with Product a b = Mul a b

-- each of the first spans with the second in its place gives an interval of 64 bits
abbrev pub FitEach : Operation → ℕ → List ShortInterval → List ShortInterval → Type 0
FitEach operation count left right =
    (r : ℕ) (x y : ShortInterval) → r < count → slice_get left r ≡ Some x → slice_get right r ≡ Some y →
    IsShort (result_of operation (interval_of x) (interval_of y))

-- each of the first results is that of the spans in its place
abbrev pub AreResults : Operation → ℕ → List ShortInterval → List ShortInterval → List ShortInterval → Type 0
AreResults operation count left right new =
    (r : ℕ) (x y z : ShortInterval) → r < count → slice_get left r ≡ Some x → slice_get right r ≡ Some y → slice_get new r ≡ Some z →
    interval_of z ≡ result_of operation (interval_of x) (interval_of y)

-- each span is that of the number
abbrev pub AreEach : ℤ → List ShortInterval → Type 0
AreEach number spans = (r : ℕ) (span : ShortInterval) → r < 64 → slice_get spans r ≡ Some span → interval_of span ≡ only number

-- the span lies inside the declared one, and is that of the expression where it may have a value
pub record IsShortSpan (term : Term) (declared ranges : Ranges) (span : ShortInterval) : Type 0 where
  pub inside : IsInside (interval_of span) (span_of term declared)
  pub exact : IsTrue (may_be_number (null_of term ranges)) → interval_of span ≡ span_of term ranges

-- these are the spans of the expression at a block's rows
abbrev pub AreShortSpans : Term → KnownTable → ℕ → List ShortInterval → Type 0
AreShortSpans term table block spans =
    (r : ℕ) (span : ShortInterval) → r < count_in_block block table.frame.rows → slice_get spans r ≡ Some span →
    IsShortSpan term (declared_ranges table.frame) (ranges_of table.frame table.known (64 * block + r)) span

-- the span lies inside the declared range of a column, and is the column's at the row where that may have a number
pub record IsShortRange (column : KnownColumn) (row : ℕ) (span : ShortInterval) : Type 0 where
  pub inside : IsInside (interval_of span) (declared_range column.ends).numbers
  pub exact : IsTrue (may_be_number (missing_at column row)) → interval_of span ≡ numbers_at column row

-- these are the ranges of a column at a block's rows
abbrev pub AreShortRanges : KnownColumn → ℕ → List ShortInterval → Type 0
AreShortRanges column block spans =
    (r : ℕ) (span : ShortInterval) → r < count_in_block block (length column.known.prefixes) → slice_get spans r ≡ Some span →
    IsShortRange column (64 * block + r) span
