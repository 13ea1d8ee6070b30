use Rattle.std.proofs.Common.{◌≡◌, drop}
use Rattle.part_groups.specs.Whole.{has_key}
use Rattle.part_groups.proofs.keyed.has_key.Given as goal

abbrev pub invariant-loop-span : goal.invariant-loop-span
invariant-loop-span l = has_key (drop l.span-index l.spans) ≡ has_key l.spans
