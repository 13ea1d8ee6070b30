use Rattle.std.proofs.Common.{◌≡◌, map, take}
use Rattle.report_parts.specs.Combined.{bound_of}
use Rattle.report_parts.proofs.values.bounds_of.Given as goal

abbrev pub invariant-loop-answer : goal.invariant-loop-answer
invariant-loop-answer l = l.bounds.items ≡ map bound_of (take l.answer-index l.answers)
