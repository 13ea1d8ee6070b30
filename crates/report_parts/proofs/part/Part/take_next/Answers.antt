use Rattle.std.proofs.Common.{refl, sym}
use Rattle.report_parts.proofs.part.Part.take_next.Goals as goal

pub returns-in-None-clause-taken : goal.returns-in-None-clause-taken
returns-in-None-clause-taken c = (refl, λ next h. c.in-None.ensures c.args.self.now next (sym c.count.ensures.count) h)
