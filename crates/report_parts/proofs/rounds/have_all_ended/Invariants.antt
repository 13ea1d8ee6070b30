use Rattle.std.proofs.Common.{◌≡◌, drop}
use Rattle.std.specs.List.{list_all}
use Rattle.report_parts.specs.Rounds.{is_over}
use Rattle.report_parts.proofs.rounds.have_all_ended.Given as goal

abbrev pub invariant-loop-part : goal.invariant-loop-part
invariant-loop-part l = list_all (is_over l.round) (drop l.part-index l.parts) ≡ list_all (is_over l.round) l.parts
