use Rattle.std.proofs.Common.{◌≡◌, ◌++◌, drop}
use Rattle.shard_groups.proofs.keys.copied_keys.Given as goal

abbrev pub invariant-loop-span : goal.invariant-loop-span
invariant-loop-span l = l.spans.items ++ drop l.span-index l.keys ≡ l.keys
