use Rattle.std.proofs.Common.{◌≡◌, map, take}
use Rattle.report_parts.specs.Rounds.{entry_in}
use Rattle.report_parts.proofs.rounds.entries_in.Given as goal

abbrev pub invariant-loop-part : goal.invariant-loop-part
invariant-loop-part l = l.entries.items ≡ map (entry_in l.round l.item) (take l.part-index l.parts)
