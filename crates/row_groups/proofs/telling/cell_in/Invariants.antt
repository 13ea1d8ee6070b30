use Rattle.std.proofs.Common.{◌≡◌, ◌+◌, drop}
use Rattle.row_groups.specs.Keeping.{first_with}
use Rattle.row_groups.proofs.telling.cell_in.Given as goal

abbrev pub invariant-loop-cell : goal.invariant-loop-cell
invariant-loop-cell l = first_with l.row l.masks ≡ l.cell + first_with l.row (drop l.cell l.masks)
