use Rattle.std.proofs.Common.{◌≡◌, true, take}
use Rattle.std.specs.List.{list_all}
use Rattle.round_engine.specs.CellAnswers.{AreGroups}
use Rattle.round_engine.specs.Stages.{Stage}
use Rattle.round_engine.proofs.CellNarrow.{narrow_in}
use Rattle.round_engine.proofs.groups.Groups.items_are_narrow.Given as goal

abbrev pub invariant-loop-running : goal.invariant-loop-running
invariant-loop-running l = (stage : Stage) → AreGroups stage l.self → list_all (narrow_in l.width l.cell stage) (take l.running-index stage.query.items) ≡ true
