-- What a sum keeps of the rows of a block of 64.
use Rattle.std.specs.Prelude.{◌≡◌, ℕ, ◌+◌, ◌*◌, ◌<◌, ◌≤◌, pos, negsuc, ◌-ℤ◌, ◌≤ℤ◌, not}
use Rattle.std.specs.Prelude.{Bool, ◌&&◌, List, length, map, slice_get, if◌then◌else◌}
use Rattle.std.specs.declared.option.Option.{Option}
use Rattle.std.specs.declared.option.Option.TheVariants.{None, Some}
use Rattle.std.specs.List.{filter_map, range_with_len}
use Rattle.aggregates.specs.declared.tally.Tally.{Tally}
use Rattle.interval_calc.specs.Intervals.{Interval}
use Rattle.known_column.specs.Columns.{count_in_block}
use Rattle.known_column.specs.KnownTables.{KnownTable}
use Rattle.plane_kernels.specs.Rows.{digit_at}
use Rattle.query_model.specs.Answers.{total}
use Rattle.query_model.specs.Bounds.{Pair, certain_count, high_share, low_share}
use Rattle.query_model.specs.Knowledge.{ranges_of}
use Rattle.query_model.specs.Queries.{Term}
use Rattle.query_model.specs.Truths.{Ranges, may_be_null, may_be_number, null_of, span_of}
use Rattle.row_values.specs.declared.shares.Shares.{Shares}
use Rattle.row_values.specs.declared.short.ShortInterval.{ShortInterval}
use Rattle.row_values.specs.ShortSpans.{FitsShort, interval_of}

-- ---- small numbers: 64 of them can be added in 64 bits

-- both ends are less than 2 ^ 57 in size
pub record IsSmall (i : Interval) : Type 0 where
  pub low : negsuc 144115188075855870 ≤ℤ i.low
  pub high : i.high ≤ℤ pos 144115188075855871

-- no value of the expression or of a part of it can leave 64 bits, and none of the expression is larger than that
pub record FitsSmall (term : Term) (ranges : Ranges) : Type 0 where
  pub short : FitsShort term ranges
  pub small : IsSmall (span_of term ranges)

-- ---- the pairs of a block's rows

-- a row that may count gives a pair: whether it surely counts, and where its value lies
abbrev pub pair_if : Bool → Bool → Interval → Option Pair
pair_if may must i = if may then Some (record { certain = must; low = i.low; high = i.high }) else None

-- what a row of a block gives, by two words: it may count where its bit in the first is 1 and the expression is not surely null, and surely
-- counts where besides its bit in the second is 1 and the expression cannot be null
abbrev pub row_pair : Term → KnownTable → ℕ → ℕ → ℕ → ℕ → Option Pair
row_pair term table block may must r =
    pair_if (digit_at r may && may_be_number (null_of term (ranges_of table.frame table.known (64 * block + r))))
    (digit_at r must && not (may_be_null (null_of term (ranges_of table.frame table.known (64 * block + r)))))
    (span_of term (ranges_of table.frame table.known (64 * block + r)))

-- what the first rows give
abbrev pub given : (ℕ → Option Pair) → ℕ → List Pair
given give count = filter_map give (range_with_len 0 count)

-- the pairs of a block's rows
abbrev pub row_pairs : Term → KnownTable → ℕ → ℕ → ℕ → List Pair
row_pairs term table block may must = given (row_pair term table block may must) (count_in_block block table.frame.rows)

-- each of the first rows gives what these words and spans say
abbrev pub Give : (ℕ → Option Pair) → ℕ → ℕ → ℕ → List ShortInterval → Type 0
Give give may must count spans =
    (r : ℕ) (span : ShortInterval) → r < count → slice_get spans r ≡ Some span →
    give r ≡ pair_if (digit_at r may) (digit_at r must) (interval_of span)

-- each of the first spans is small
abbrev pub AreSmall : ℕ → List ShortInterval → Type 0
AreSmall count spans = (r : ℕ) (span : ShortInterval) → r < count → slice_get spans r ≡ Some span → IsSmall (interval_of span)

-- ---- what is added

-- how many pairs these are, how many of them surely count, and what they add to the least and to the greatest sum
pub record AreShares (ps : List Pair) (shares : Shares) : Type 0 where
  pub all : shares.all ≡ length ps
  pub certain : shares.certain ≡ certain_count ps
  pub low : shares.low ≡ total (map low_share ps)
  pub high : shares.high ≡ total (map high_share ps)

-- no more than so many small rows can add
pub record AreWithin (rows : ℕ) (shares : Shares) : Type 0 where
  pub all : shares.all ≤ rows
  pub certain : shares.certain ≤ rows
  pub low : (pos 0 -ℤ pos (144115188075855871 * rows)) ≤ℤ shares.low
  pub not_low : shares.low ≤ℤ pos (144115188075855871 * rows)
  pub high : (pos 0 -ℤ pos (144115188075855871 * rows)) ≤ℤ shares.high
  pub not_high : shares.high ≤ℤ pos (144115188075855871 * rows)

-- no more than the small rows of so many blocks can add
pub record HasBlocks (blocks : ℕ) (tally : Tally) : Type 0 where
  pub all : tally.all ≤ 64 * blocks
  pub certain : tally.certain ≤ 64 * blocks
  pub low : (pos 0 -ℤ pos (9223372036854775808 * blocks)) ≤ℤ tally.low_sum
  pub not_low : tally.low_sum ≤ℤ pos (9223372036854775808 * blocks)
  pub high : (pos 0 -ℤ pos (9223372036854775808 * blocks)) ≤ℤ tally.high_sum
  pub not_high : tally.high_sum ≤ℤ pos (9223372036854775808 * blocks)
