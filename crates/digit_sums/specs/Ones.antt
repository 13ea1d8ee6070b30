-- What the next plane of a column adds to the sums of cells: a row with the bit of 1 begins higher, and each ends where its digits end.
use Rattle.std.specs.Prelude.{◌≡◌, ℕ, ◌+◌, ◌-◌, ◌*◌, ◌%◌, ◌^◌, ◌≤◌, pos, ◌+ℤ◌, ◌≤ℤ◌, Bool, true, cond, List, length, map}
use Rattle.query_model.specs.Answers.{total}
use Rattle.query_model.specs.Bounds.{Pair, certain_count, high_share, low_share}
use Rattle.digit_sums.specs.declared.ends.DigitEnds.{DigitEnds}
use Rattle.digit_sums.specs.declared.ones.RowBits.{RowBits}

-- for how many cells there is room, and of each cell that there is, how many of its sure rows have the bit of 1 and how many are at top,
-- and the sum of the high ends of its other rows
pub record CountedBits : Type 0 where
  pub room : ℕ
  pub cells : List RowBits
  pub highs : List ℕ

-- a row of which that is so or not is counted
abbrev pub with_row : RowBits → Bool → Bool → RowBits
with_row bits one top = record { ones = bits.ones + cond one 1 0; at_top = bits.at_top + cond top 1 0 }

-- how far the high ends of so many rows lie above their low ends, added up, where so many are at top
abbrev pub spans_by : DigitEnds → ℕ → ℕ → ℕ
spans_by ends rows at_top = at_top * (ends.spread % 2 ^ ends.unread) + (rows - at_top) * (2 ^ ends.unread - 1)

-- a row's pair before and behind the plane, by its bit and by whether it then is at top; the column is never negative
pub record IsRowRead (ends : DigitEnds) (one top : Bool) (old new : Pair) : Type 0 where
  pub certain : new.certain ≡ old.certain
  pub never_negative : pos 0 ≤ℤ old.low
  pub low : new.low ≡ old.low +ℤ pos (cond one (2 ^ ends.unread) 0)
  pub high : new.high ≡ new.low +ℤ pos (cond top (ends.spread % 2 ^ ends.unread) (2 ^ ends.unread - 1))

-- a cell's pairs before and behind it, by what is counted of the cell: where it holds one key, the least sum grows by what the bits of 1 of
-- its sure rows weigh, and the greatest lies above it by the spans of these and by the high ends of the others
pub record AreRead (ends : DigitEnds) (alone : Bool) (old new : List Pair) (bits : RowBits) (highs : ℕ) : Type 0 where
  pub rows : length new ≡ length old
  pub certain : certain_count new ≡ certain_count old
  pub few : bits.ones ≤ length old
  pub some : bits.at_top ≤ length old
  pub fits : highs ≤ 549755813887 * length old
  pub top : alone ≡ true → bits.at_top ≤ certain_count old
  pub low : alone ≡ true → total (map low_share new) ≡ total (map low_share old) +ℤ pos (bits.ones * 2 ^ ends.unread)
  pub high : alone ≡ true → total (map high_share new)
      ≡ total (map low_share new) +ℤ pos (spans_by ends (certain_count old) bits.at_top + highs)
