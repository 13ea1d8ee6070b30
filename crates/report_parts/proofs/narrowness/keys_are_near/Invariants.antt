use Rattle.std.proofs.Common.{◌≡◌, drop}
use Rattle.std.specs.List.{list_all}
use Rattle.report_parts.specs.Narrowness.{has_near_key}
use Rattle.report_parts.proofs.narrowness.keys_are_near.Given as goal

abbrev pub invariant-loop-row : goal.invariant-loop-row
invariant-loop-row l = list_all (has_near_key l.width) (drop l.row-index l.rows) ≡ list_all (has_near_key l.width) l.rows
