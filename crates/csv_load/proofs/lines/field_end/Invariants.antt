use Rattle.std.proofs.Common.{◌-◌, ◌≤◌, length}
use Rattle.csv_load.proofs.StopFacts.{JoinBetween}
use Rattle.csv_load.proofs.lines.field_end.Given as goal

abbrev pub invariant-loop-at : goal.invariant-loop-at
invariant-loop-at l = record {
  from : l.from ≤ l.at;
  within : l.at ≤ length l.text;
  field : JoinBetween l.text l.from l.at;
}

abbrev pub decreases-loop-at : goal.decreases-loop-at
decreases-loop-at l = length l.text - l.at

abbrev pub invariant-loop-end : goal.invariant-loop-end
invariant-loop-end l = JoinBetween l.text l.from l.end
