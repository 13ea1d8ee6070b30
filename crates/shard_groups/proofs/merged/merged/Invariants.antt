use Rattle.std.proofs.Common.{◌≤◌, ◌+◌, ◌-◌, ◌++◌, length, take}
use Rattle.shard_groups.specs.Groups.{keys_in}
use Rattle.shard_groups.specs.Steps.{AreNarrow}
use Rattle.shard_groups.proofs.merged.merged.Given as goal

abbrev pub invariant-loop-done : goal.invariant-loop-done
invariant-loop-done l =
    AreNarrow (keys_in (take l.done l.cells) ++ take l.at l.lines) l.merged.items × (l.done ≤ length l.cells) × (l.at ≤ length l.lines)

abbrev pub decreases-loop-done : goal.decreases-loop-done
decreases-loop-done l = length l.cells - l.done + (length l.lines - l.at)
