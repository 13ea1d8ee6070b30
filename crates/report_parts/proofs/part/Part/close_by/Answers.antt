use Rattle.report_parts.proofs.Turns.{refused_when, second_decides_ok}
use Rattle.report_parts.specs.Told.{BeginsGroup, GoesOn, closed, completed}
use Rattle.report_parts.proofs.part.Part.close_by.Goals as goal

pub returns-clause-taken : goal.returns-clause-taken
returns-clause-taken c =
    second_decides_ok c.close_by_next.result (λ told next. BeginsGroup c.args.shape.now.columns (closed told) c.args.line.now next)
    (λ told next. GoesOn c.args.shape.now (completed told) c.args.line.now next) c.args.self.now c.close_by_group.new.self c.close_by_next.new.self
    (refused_when _ _ _ c.if-branch.false c.in_ok-close_by_group.ensures.taken) c.close_by_next.ensures.taken
