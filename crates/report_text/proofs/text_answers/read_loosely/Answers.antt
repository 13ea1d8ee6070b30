use Rattle.report_text.specs.TextAnswers.{span_of}
use Rattle.report_text.proofs.text_answers.read_loosely.Goals as goal

pub returns-clause-read : goal.returns-clause-read
returns-clause-read c = λ answer h e.
    c.answer_of.ensures.is answer (c.in_ok-read_interval.ensures.read (span_of answer) h e)
