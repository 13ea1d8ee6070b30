use Rattle.std.proofs.Common.{◌≡◌, ℕ, ◌<◌, length, slice_get, Some}
use Rattle.digit_sums.specs.Moves.{no_moves}
use Rattle.digit_sums.proofs.moves.CellMoves.begin.Given as goal

abbrev pub invariant-loop-cell : goal.invariant-loop-cell
invariant-loop-cell l = record {
  count : length l.self-inside.moves.items ≡ length l.initial.self-inside.moves.items;
  done : (k : ℕ) → k < l.cell → slice_get l.self-inside.moves.items k ≡ Some no_moves;
}
