use Rattle.std.proofs.Common.{◌≡◌, ℕ, ◌<◌, length, slice_get, Some, IsTrue}
use Rattle.row_groups.specs.Partition.{is_legal_cell}
use Rattle.round_engine.specs.CellAnswers.{has_one_key}
use Rattle.round_engine.proofs.one_key.tell_single.Given as goal

abbrev pub invariant-loop-cell : goal.invariant-loop-cell
invariant-loop-cell l = record {
  room : length l.single ≡ length l.fn.single;
  told : (cell : ℕ) → cell < l.cell → IsTrue (is_legal_cell l.cells.parts cell) → slice_get l.single cell ≡ Some (has_one_key l.cells.parts cell);
}
