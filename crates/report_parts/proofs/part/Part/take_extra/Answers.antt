use Rattle.report_parts.proofs.Turns.{else_decides_ok, refused_when}
use Rattle.report_parts.specs.Told.{ClipsText, Extends}
use Rattle.report_parts.proofs.part.Part.take_extra.Goals as goal

pub returns-clause-taken : goal.returns-clause-taken
returns-clause-taken c =
    let kinds = c.args.kinds.now in
    let line = c.args.line.now in
    else_decides_ok c.take_clip.result (λ told next. Extends kinds told line next) (λ told next. ClipsText kinds told line next)
    c.args.self.now c.take_answer_behind.new.self c.take_clip.new.self
    (refused_when _ _ _ c.if-branch.false c.in_ok-take_answer_behind.ensures.taken)
    c.take_clip.ensures.taken
