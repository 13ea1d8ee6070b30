use Rattle.report_parts.proofs.Turns.{else_decides_ok, refused_when}
use Rattle.report_parts.specs.Told.{Answers, TellsText}
use Rattle.report_parts.proofs.part.Part.take_item.Goals as goal

pub returns-clause-taken : goal.returns-clause-taken
returns-clause-taken c =
    let kinds = c.args.kinds.now in
    let line = c.args.line.now in
    else_decides_ok c.take_text.result (λ told next. Answers kinds told line next) (λ told next. TellsText kinds told line next)
    c.args.self.now c.take_answer.new.self c.take_text.new.self
    (refused_when _ _ _ c.if-branch.false c.in_ok-take_answer.ensures.taken)
    c.take_text.ensures.taken
