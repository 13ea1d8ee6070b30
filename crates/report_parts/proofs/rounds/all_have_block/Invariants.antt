use Rattle.std.proofs.Common.{◌≡◌, drop}
use Rattle.std.specs.List.{list_all}
use Rattle.report_parts.specs.Rounds.{has_block}
use Rattle.report_parts.proofs.rounds.all_have_block.Given as goal

abbrev pub invariant-loop-part : goal.invariant-loop-part
invariant-loop-part l = list_all (has_block l.round) (drop l.part-index l.parts) ≡ list_all (has_block l.round) l.parts
