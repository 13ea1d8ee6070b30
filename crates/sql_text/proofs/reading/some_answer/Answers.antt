-- Each text has an answer.
use Rattle.sql_text.proofs.SomeAnswer.{is_answered}
use Rattle.sql_text.proofs.reading.some_answer.Goals as goal

pub returns : goal.returns
returns c = is_answered
