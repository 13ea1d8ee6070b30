use Rattle.std.proofs.Common.{◌≡◌, take}
use Rattle.part_rows.specs.Ranked.{rows_behind}
use Rattle.part_rows.proofs.ranked.all_rows.Given as goal

abbrev pub invariant-loop-row : goal.invariant-loop-row
invariant-loop-row l = rows_behind l.all.items ≡ take l.row-index l.rows
