use Rattle.std.proofs.Common.{refl}
use Rattle.report_parts.proofs.Turns.{none_given}
use Rattle.report_parts.proofs.part.Part.take_group.Goals as goal

pub returns-in-None-clause-taken : goal.returns-in-None-clause-taken
returns-in-None-clause-taken c = (refl, λ next h. none_given c.in_ok-group.field-0 _ _ c.in-None.is c.in_ok-group.ensures c.args.self.now next h)
