use Rattle.std.proofs.Common.{◌≡◌, drop}
use Rattle.shard_groups.specs.Cuts.{behind}
use Rattle.shard_groups.proofs.runs.run_length.Given as goal

abbrev pub invariant-loop-at : goal.invariant-loop-at
invariant-loop-at l = behind l.line (drop l.at l.cells) ≡ behind l.line l.cells
