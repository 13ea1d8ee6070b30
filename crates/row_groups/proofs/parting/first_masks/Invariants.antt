use Rattle.std.proofs.Common.{◌≡◌, length}
use Rattle.row_groups.specs.Keeping.{AreFirst}
use Rattle.row_groups.proofs.parting.first_masks.Given as goal

abbrev pub invariant-loop-cell : goal.invariant-loop-cell
invariant-loop-cell l = record {
  count : length l.masks.items ≡ l.cell;
  first : AreFirst l.rows l.masks.items;
}
