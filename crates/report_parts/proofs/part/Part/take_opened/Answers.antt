use Rattle.report_parts.proofs.Turns.{second_decides}
use Rattle.report_parts.specs.Told.{TellsParts, BeginsRound}
use Rattle.report_parts.proofs.part.Part.take_opened.Goals as goal

pub returns-else-take_parts-clause-taken : goal.returns-else-take_parts-clause-taken
returns-else-take_parts-clause-taken c =
    second_decides c.take_round.result (λ told next. TellsParts told c.args.line.now next) (λ told next. BeginsRound c.args.shape.now told c.args.line.now next)
    c.args.self.now c.take_parts.new.self c.take_round.new.self c.if-take_parts.ensures.taken c.take_round.ensures.taken
