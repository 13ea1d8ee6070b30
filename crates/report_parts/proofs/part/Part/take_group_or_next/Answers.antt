use Rattle.report_parts.proofs.Turns.{refused_when, second_decides_ok}
use Rattle.report_parts.specs.Told.{BeginsGroup, GoesOn, block_done}
use Rattle.report_parts.proofs.part.Part.take_group_or_next.Goals as goal

pub returns-clause-taken : goal.returns-clause-taken
returns-clause-taken c =
    second_decides_ok c.end_by_next.result (λ told next. BeginsGroup c.args.shape.now.columns told c.args.line.now next)
    (λ told next. GoesOn c.args.shape.now (block_done told) c.args.line.now next) c.args.self.now c.take_group.new.self c.end_by_next.new.self
    (refused_when _ _ _ c.if-branch.false c.in_ok-take_group.ensures.taken) c.end_by_next.ensures.taken
