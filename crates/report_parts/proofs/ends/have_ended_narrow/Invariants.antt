use Rattle.std.proofs.Common.{◌≡◌, drop}
use Rattle.std.specs.List.{list_all}
use Rattle.report_parts.specs.Ends.{ends_narrow}
use Rattle.report_parts.proofs.ends.have_ended_narrow.Given as goal

abbrev pub invariant-loop-part : goal.invariant-loop-part
invariant-loop-part l = list_all (λ part. ends_narrow part.place) (drop l.part-index l.parts) ≡ list_all (λ part. ends_narrow part.place) l.parts
