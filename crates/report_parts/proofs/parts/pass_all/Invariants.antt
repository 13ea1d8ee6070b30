use Rattle.report_parts.specs.Passed.{AllTellFrom}
use Rattle.report_parts.proofs.parts.pass_all.Given as goal

abbrev pub invariant-loop-place : goal.invariant-loop-place
invariant-loop-place l = AllTellFrom l.round l.initial.parts l.parts
