use Rattle.std.proofs.Common.{◌≡◌, true}
use Rattle.std.specs.List.{list_all, range_with_len}
use Rattle.round_engine.specs.CellAnswers.{AreGroups}
use Rattle.round_engine.specs.Narrowness.{is_narrow_cell}
use Rattle.round_engine.specs.Stages.{Stage}
use Rattle.round_engine.proofs.groups.Groups.is_narrow.Given as goal

abbrev pub invariant-loop-cell : goal.invariant-loop-cell
invariant-loop-cell l = (stage : Stage) → AreGroups stage l.self → list_all (is_narrow_cell l.near.width stage) (range_with_len 0 l.cell) ≡ true
