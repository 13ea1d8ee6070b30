use Rattle.std.proofs.Common.{◌≡◌, map, take}
use Rattle.part_rows.specs.Combined.{listing}
use Rattle.part_rows.specs.Faults.{forms_of}
use Rattle.part_rows.proofs.forms.forms_of.Given as goal

abbrev pub invariant-loop-row : goal.invariant-loop-row
invariant-loop-row l = l.forms.items ≡ forms_of (map listing (take l.row-index l.rows))
