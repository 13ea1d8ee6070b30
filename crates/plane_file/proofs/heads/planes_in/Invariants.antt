-- What holds as planes are counted: those of the columns so far are, at most 65 of each.
use Rattle.std.proofs.Common.{◌≡◌, ◌≤◌, ◌*◌, take}
use Rattle.plane_file.specs.Format.{plane_count}
use Rattle.plane_file.proofs.heads.planes_in.Given as goal

abbrev pub invariant-loop-column : goal.invariant-loop-column
invariant-loop-column l = record {
  counted : l.count ≡ plane_count (take l.column-index l.columns);
  few : l.count ≤ 65 * l.column-index;
}
