-- What rows that move change in their cells: rows that counted perhaps, and now surely count or do not.
use Rattle.std.specs.Prelude.{◌≡◌, ℕ, suc, ◌+◌, ◌*◌, ◌<◌, ◌≤◌, ℤ, pos, negsuc, ◌+ℤ◌, List, length, map}
use Rattle.std.specs.declared.option.Option.TheVariants.{None}
use Rattle.aggregates.specs.declared.tally.Tally.{Tally}
use Rattle.query_model.specs.declared.query.ItemKind.{ItemKind}
use Rattle.query_model.specs.declared.query.ItemKind.TheVariants.{Avg, Count, Max, Min, Sum}
use Rattle.query_model.specs.Answers.{total}
use Rattle.query_model.specs.Bounds.{Pair, certain_count, high_share, low_share}
use Rattle.digit_sums.specs.declared.moves.RowMoves.{RowMoves}

-- for how many cells there is room, and of each cell that there is, what is counted of its rows that moved
pub record CountedMoves : Type 0 where
  pub room : ℕ
  pub cells : List RowMoves

-- how far a number lies above 0
abbrev pub above : ℤ → ℕ
above (pos n) = n
above (negsuc n) = 0

-- and how far below it
abbrev pub below : ℤ → ℕ
below (pos n) = 0
below (negsuc n) = suc n

-- a row more now surely counts: its whole value is taken, where only what lowered the least sum and raised the greatest was taken before
abbrev pub with_came : RowMoves → ℤ → ℤ → RowMoves
with_came moves low high = record {
  came = moves.came + 1;
  left = moves.left;
  raised = moves.raised + above low;
  lowered = moves.lowered + below high;
}

-- a row more does not count now: what it lowered the least sum by and raised the greatest is taken off
abbrev pub with_left : RowMoves → ℤ → ℤ → RowMoves
with_left moves low high = record {
  came = moves.came;
  left = moves.left + 1;
  raised = moves.raised + below low;
  lowered = moves.lowered + above high;
}

-- no row of the cell moved
abbrev pub no_moves : RowMoves
no_moves = record { came = 0; left = 0; raised = 0; lowered = 0 }

-- what is kept of rows of which no ends are
abbrev pub without_ends : ℕ → ℕ → ℤ → ℤ → Tally
without_ends certain all low_sum high_sum = record {
  certain = certain;
  all = all;
  least_low = None;
  greatest_high = None;
  least_certain_high = None;
  greatest_certain_low = None;
  low_sum = low_sum;
  high_sum = high_sum;
}

-- fewer rows moved than a table may have, and what they changed is that of so many numbers of 39 bits at most
pub record AreFewMoves (moves : RowMoves) : Type 0 where
  pub rows : moves.came + moves.left < 16777216
  pub raised : moves.raised ≤ 549755813887 * (moves.came + moves.left)
  pub lowered : moves.lowered ≤ 549755813887 * (moves.came + moves.left)

-- a cell's pairs before and behind a plane, by what is counted of its rows that moved: those that surely count are more, and all are fewer
pub record AreRowsMoved (old new : List Pair) (moves : RowMoves) : Type 0 where
  pub rows : length new + moves.left ≡ length old
  pub certain : certain_count new ≡ certain_count old + moves.came
  pub once : moves.came + moves.left ≤ length old
  pub raised : moves.raised ≤ 549755813887 * (moves.came + moves.left)
  pub lowered : moves.lowered ≤ 549755813887 * (moves.came + moves.left)

-- besides the least sum is greater and the greatest is less; and where none moved, the pairs are the same
pub record AreMoved (old new : List Pair) (moves : RowMoves) : Type 0 where
  pub counts : AreRowsMoved old new moves
  pub low : total (map low_share new) ≡ total (map low_share old) +ℤ pos moves.raised
  pub high : total (map high_share old) ≡ total (map high_share new) +ℤ pos moves.lowered
  pub still : moves.came ≡ 0 → moves.left ≡ 0 → new ≡ old

-- what an item of this kind asks for: counts take no value
abbrev pub AreMovedFor : ItemKind → List Pair → List Pair → RowMoves → Type 0
AreMovedFor Count old new moves = AreRowsMoved old new moves
AreMovedFor Sum old new moves = AreMoved old new moves
AreMovedFor Min old new moves = AreMoved old new moves
AreMovedFor Max old new moves = AreMoved old new moves
AreMovedFor Avg old new moves = AreMoved old new moves
