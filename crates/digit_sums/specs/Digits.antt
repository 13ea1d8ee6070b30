-- Rows of a column that is never null and never negative, by the digits that were read of their numbers.
use Rattle.std.specs.Prelude.{◌≡◌, ℕ, ◌+◌, ◌-◌, ◌*◌, ◌/◌, ◌%◌, ◌^◌, ◌<◌, ◌≤◌, ◌==◌, min, max, ℤ, pos, ◌+ℤ◌, ◌*ℤ◌}
use Rattle.std.specs.Prelude.{Bool, false, cond, List, length, map, take, slice_get}
use Rattle.std.specs.declared.option.Option.TheVariants.{None, Some}
use Rattle.daq_table.specs.Tables.{planes, spread}
use Rattle.known_column.specs.Columns.{KnownColumn}
use Rattle.query_model.specs.Bounds.{Pair}
use Rattle.aggregates.specs.declared.tally.Tally.{Tally}
use Rattle.aggregates.specs.Runnings.{IsAdded, MayCount, Tallies}
use Rattle.aggregates.specs.SumsOfCells.{end_if}
use Rattle.digit_sums.specs.declared.ends.DigitEnds.{DigitEnds}
use Rattle.digit_sums.specs.declared.ends.OuterDigits.{OuterDigits}

-- ---- ends

-- the column's numbers begin at its base and end at its top, and so many of their digits are unread
pub record AreEndsOf (column : KnownColumn) (ends : DigitEnds) : Type 0 where
  pub never_null : column.ends.nullable ≡ false
  pub base : ends.base ≡ column.ends.base
  pub spread_is : ends.spread ≡ spread column.ends
  pub unread : ends.unread ≡ planes column.ends - column.known.read

-- some number of the column begins with these digits
abbrev pub AreDigits : DigitEnds → ℕ → Type 0
AreDigits ends digits = digits * 2 ^ ends.unread ≤ ends.spread

-- the least number that does, and the greatest
abbrev pub low_by : DigitEnds → ℕ → ℤ
low_by ends digits = ends.base +ℤ pos (digits * 2 ^ ends.unread)

abbrev pub high_by : DigitEnds → ℕ → ℤ
high_by ends digits = ends.base +ℤ pos (min (digits * 2 ^ ends.unread + (2 ^ ends.unread - 1)) ends.spread)

-- a row with these digits
abbrev pub pair_by : DigitEnds → Bool → ℕ → Pair
pair_by ends certain digits = record { certain = certain; low = low_by ends digits; high = high_by ends digits }

-- the digits of the greatest number of all
abbrev pub top_digits : DigitEnds → ℕ
top_digits ends = ends.spread / 2 ^ ends.unread

-- ---- cells

-- the rows of a cell: whether they count for certain, how many they are, how many of them have the digits of the greatest number, and of
-- their digits, as numbers, the least, the greatest and the sum
pub record RowDigits : Type 0 where
  pub certain : Bool
  pub rows : ℕ
  pub at_top : ℕ
  pub least : ℕ
  pub greatest : ℕ
  pub sum : ℕ

-- there are no more rows than a table may have. While there is none, each row's digits are as little as the least and as great as the
-- greatest
pub record IsKept (cell : RowDigits) : Type 0 where
  pub few : cell.rows ≤ 16777216
  pub some : cell.at_top ≤ cell.rows
  pub small : cell.sum ≤ 4294967295 * cell.rows
  pub least : cell.rows ≡ 0 → cell.least ≡ 4294967295
  pub greatest : cell.rows ≡ 0 → cell.greatest ≡ 0

-- how many of its rows count for certain
abbrev pub certain_rows : RowDigits → ℕ
certain_rows cell = cond cell.certain cell.rows 0

-- the low ends of its rows, added up, and how far their high ends lie above these
abbrev pub lows_of : DigitEnds → RowDigits → ℤ
lows_of ends cell = (ends.base *ℤ pos cell.rows) +ℤ pos (cell.sum * 2 ^ ends.unread)

abbrev pub spans_of : DigitEnds → RowDigits → ℕ
spans_of ends cell = cell.at_top * (ends.spread % 2 ^ ends.unread) + (cell.rows - cell.at_top) * (2 ^ ends.unread - 1)

-- what a sum keeps of them
abbrev pub tally_by : DigitEnds → RowDigits → Tally
tally_by ends cell = record {
  certain = certain_rows cell;
  all = cell.rows;
  least_low = end_if (certain_rows cell) cell.rows (low_by ends cell.least);
  greatest_high = end_if (certain_rows cell) cell.rows (high_by ends cell.greatest);
  least_certain_high = None;
  greatest_certain_low = None;
  low_sum = cond cell.certain (lows_of ends cell) (pos 0);
  high_sum = lows_of ends cell +ℤ pos (spans_of ends cell);
}

-- the cell where the digits of one of its rows are looked at
abbrev pub noted : RowDigits → ℕ → ℕ → RowDigits
noted cell top digits = record {
  certain = cell.certain;
  rows = cell.rows;
  at_top = cell.at_top + cond (digits == top) 1 0;
  least = min cell.least digits;
  greatest = max cell.greatest digits;
  sum = cell.sum;
}

-- the cell with a row more
abbrev pub with_row : RowDigits → ℕ → ℕ → RowDigits
with_row cell top digits = record {
  certain = cell.certain;
  rows = cell.rows + 1;
  at_top = cell.at_top + cond (digits == top) 1 0;
  least = min cell.least digits;
  greatest = max cell.greatest digits;
  sum = cell.sum + digits;
}

-- ---- cells whose ends are told by outer rows

-- what is kept of a cell, and the cell: only at its rows with outer digits it was looked for the least and the greatest
pub record IsKeptBy (outer : OuterDigits) (kept cell : RowDigits) : Type 0 where
  pub sound : IsKept cell
  pub certain : kept.certain ≡ cell.certain
  pub rows : kept.rows ≡ cell.rows
  pub at_top : kept.at_top ≡ cell.at_top
  pub sum : kept.sum ≡ cell.sum
  pub above : cell.least ≤ kept.least
  pub below : kept.greatest ≤ cell.greatest
  pub least : cell.least ≤ outer.low → kept.least ≡ cell.least
  pub greatest : outer.high ≤ cell.greatest → kept.greatest ≡ cell.greatest

-- many cells, the ends by which their rows are seen, and of each whether its rows count for certain; how many they are, what is kept of
-- these and of cells that are no more, and which digits are outer
pub record DigitTallies : Type 0 where
  pub tallies : Tallies
  pub ends : DigitEnds
  pub certain : List Bool
  pub count : ℕ
  pub kept : List RowDigits
  pub outer : OuterDigits

-- these tallies are those of cells of which that is kept
pub record AreOf (sums : DigitTallies) (tallies : Tallies) : Type 0 where
  pub cells : List RowDigits
  pub room : length cells ≡ length sums.kept
  pub each : (k : ℕ) (kept cell : RowDigits) → k < sums.count → slice_get sums.kept k ≡ Some kept → slice_get cells k ≡ Some cell
      → IsKeptBy sums.outer kept cell
  pub are : tallies ≡ record {
    kind = sums.tallies.kind;
    room = length cells;
    cells = take sums.count (map (tally_by sums.ends) cells);
  }

-- the cells have tallies, one of which stands for a list that is not full
pub record HaveRoom (sums : DigitTallies) (cell : ℕ) : Type 0 where
  pub tallies : Tallies
  pub are : AreOf sums tallies
  pub may : MayCount tallies cell

-- they have the tallies with a pair more in a cell
pub record GrowBy (sums : DigitTallies) (old : Tallies) (cell : ℕ) (p : Pair) : Type 0 where
  pub tallies : Tallies
  pub are : AreOf sums tallies
  pub added : IsAdded old tallies cell p
