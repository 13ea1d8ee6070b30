use Rattle.std.proofs.Common.{refl}
use Rattle.report_parts.proofs.Turns.{completed_count}
use Rattle.report_parts.specs.Told.{completed}
use Rattle.report_parts.proofs.part.Part.close_by_next.Goals as goal

pub returns-in_default-clause-taken : goal.returns-in_default-clause-taken
returns-in_default-clause-taken c =
    let old = c.args.self.now in
    (refl, λ next h. c.in_default.ensures (completed old) next (completed_count old c.count.result c.count.ensures.count) h)
