use Rattle.std.proofs.Common.{◌≡◌, take}
use Rattle.std.specs.List.{filter}
use Rattle.part_rows.specs.Ranked.{rows_behind}
use Rattle.part_rows.proofs.ranked.certain_rows.Given as goal

abbrev pub invariant-loop-row : goal.invariant-loop-row
invariant-loop-row l = rows_behind l.some.items ≡ filter (λ row. row.certain) (take l.row-index l.rows)
