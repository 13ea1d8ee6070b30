use Rattle.std.proofs.Common.{◌≡◌, ℕ, ◌+◌, ◌<◌, Some, slice_get, get_or}
use Rattle.row_groups.proofs.cells.Cells.read_rows.Given as goal

abbrev pub invariant-loop-row : goal.invariant-loop-row
invariant-loop-row l = (row : ℕ) → row < l.row → slice_get l.self.cells (l.first + row) ≡ Some (get_or l.block row 0)
