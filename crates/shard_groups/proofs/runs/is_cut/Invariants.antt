use Rattle.std.proofs.Common.{◌≡◌, ◌≤◌, drop, length}
use Rattle.shard_groups.specs.Cuts.{is_cut}
use Rattle.shard_groups.proofs.runs.is_cut.Given as goal

abbrev pub invariant-loop-line : goal.invariant-loop-line
invariant-loop-line l = (is_cut (drop l.line-index l.lines) (drop l.at l.cells) ≡ is_cut l.lines l.cells) × (l.at ≤ length l.cells)
