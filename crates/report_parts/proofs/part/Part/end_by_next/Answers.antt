use Rattle.std.proofs.Common.{refl}
use Rattle.report_parts.proofs.Turns.{done_count}
use Rattle.report_parts.specs.Told.{block_done}
use Rattle.report_parts.proofs.part.Part.end_by_next.Goals as goal

pub returns-in_default-clause-taken : goal.returns-in_default-clause-taken
returns-in_default-clause-taken c =
    let old = c.args.self.now in
    (refl, λ next h. c.in_default.ensures (block_done old) next (done_count old c.count.result c.count.ensures.count) h)
