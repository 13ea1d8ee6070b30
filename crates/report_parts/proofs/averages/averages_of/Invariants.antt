use Rattle.std.proofs.Common.{◌≡◌, map, take}
use Rattle.query_model.specs.Bounds.{fractions_of}
use Rattle.report_parts.specs.Combined.{average_of}
use Rattle.report_parts.proofs.averages.averages_of.Given as goal

abbrev pub invariant-loop-answer : goal.invariant-loop-answer
invariant-loop-answer l = map fractions_of l.bounds.items ≡ map average_of (take l.answer-index l.answers)
