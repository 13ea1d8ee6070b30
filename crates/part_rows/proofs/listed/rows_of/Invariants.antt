use Rattle.std.proofs.Common.{◌≡◌, map, take}
use Rattle.part_rows.specs.Combined.{listing, row_of}
use Rattle.part_rows.proofs.listed.rows_of.Given as goal

abbrev pub invariant-loop-row : goal.invariant-loop-row
invariant-loop-row l = l.rows.items ≡ map row_of (map listing (take l.row-index l.listed))
