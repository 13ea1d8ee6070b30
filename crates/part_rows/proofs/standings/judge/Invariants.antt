use Rattle.std.proofs.Common.{◌≡◌, map, take}
use Rattle.part_rows.specs.Standings.{standing}
use Rattle.part_rows.proofs.standings.judge.Given as goal

abbrev pub invariant-loop-row : goal.invariant-loop-row
invariant-loop-row l = l.known.items ≡ map (standing l.asked l.rows) (take l.row-index l.rows)
