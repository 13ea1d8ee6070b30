use Rattle.std.proofs.Common.{◌≡◌, ◌-◌, length}
use Rattle.row_groups.proofs.Told.{told_from}
use Rattle.row_groups.proofs.telling.write_masks.Given as goal

abbrev pub invariant-loop-done : goal.invariant-loop-done
invariant-loop-done l = l.cells ≡ told_from (length l.fn.cells) l.masks (length l.masks - l.done)
