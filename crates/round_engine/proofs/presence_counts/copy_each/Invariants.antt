use Rattle.std.proofs.Common.{◌≡◌, length}
use Rattle.round_engine.specs.CellAnswers.{StandForOthers}
use Rattle.round_engine.specs.Engines.{stage_of}
use Rattle.round_engine.proofs.presence_counts.copy_each.Given as goal

abbrev pub invariant-loop-i : goal.invariant-loop-i
invariant-loop-i l = record {
  marks : length l.others ≡ 16;
  others : StandForOthers (stage_of l.query l.columns) l.others l.runnings;
}
