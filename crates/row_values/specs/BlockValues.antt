-- What an expression may be at the rows of a block of 64.
use Rattle.std.specs.Prelude.{◌≡◌, ℕ, ◌+◌, ◌*◌, ◌<◌, not, IsTrue, List, length, slice_get}
use Rattle.std.specs.declared.option.Option.TheVariants.{Some}
use Rattle.interval_calc.specs.Intervals.{interval_of}
use Rattle.interval_calc.specs.declared.Interval as code
use Rattle.plane_kernels.specs.Rows.{digit_at}
use Rattle.known_column.specs.Columns.{count_in_block}
use Rattle.known_column.specs.KnownTables.{KnownTable}
use Rattle.query_model.specs.Knowledge.{ranges_of}
use Rattle.query_model.specs.Queries.{Term}
use Rattle.query_model.specs.Truths.{may_be_null, may_be_number, null_of, span_of}
use Rattle.row_values.specs.declared.block_values.BlockValues.{BlockValues}
use Rattle.row_values.specs.declared.short_values.ShortValues.{ShortValues}
use Rattle.row_values.specs.ShortSpans.{AreShortSpans}

-- the word has the rows of the block at which the expression may have a value
abbrev pub ArePossible : Term → KnownTable → ℕ → ℕ → Type 0
ArePossible term table block word =
    (r : ℕ) → r < count_in_block block table.frame.rows →
    digit_at r word ≡ may_be_number (null_of term (ranges_of table.frame table.known (64 * block + r)))

-- the word has the rows of the block at which the expression surely has a value
abbrev pub AreSure : Term → KnownTable → ℕ → ℕ → Type 0
AreSure term table block word =
    (r : ℕ) → r < count_in_block block table.frame.rows →
    digit_at r word ≡ not (may_be_null (null_of term (ranges_of table.frame table.known (64 * block + r))))

-- these are the spans of the expression at the block's rows where it may have a value
abbrev pub AreSpans : Term → KnownTable → ℕ → List code.Interval → Type 0
AreSpans term table block spans =
    (r : ℕ) (span : code.Interval) → r < count_in_block block table.frame.rows → slice_get spans r ≡ Some span →
    IsTrue (may_be_number (null_of term (ranges_of table.frame table.known (64 * block + r)))) →
    interval_of span ≡ span_of term (ranges_of table.frame table.known (64 * block + r))

-- at which rows of the block the expression may have a value, at which it surely has, and where it lies there
pub record AreValues (term : Term) (table : KnownTable) (block : ℕ) (values : BlockValues) : Type 0 where
  pub possible : ArePossible term table block values.possible
  pub sure : AreSure term table block values.sure
  pub count : length values.spans ≡ 64
  pub spans : AreSpans term table block values.spans

-- the same by numbers of 64 bits
pub record AreShortValues (term : Term) (table : KnownTable) (block : ℕ) (values : ShortValues) : Type 0 where
  pub possible : ArePossible term table block values.possible
  pub sure : AreSure term table block values.sure
  pub count : length values.spans ≡ 64
  pub spans : AreShortSpans term table block values.spans
