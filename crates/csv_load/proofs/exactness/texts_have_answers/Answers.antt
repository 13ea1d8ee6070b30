use Rattle.csv_load.proofs.SomeAnswer.{has_answer}
use Rattle.csv_load.proofs.exactness.texts_have_answers.Goals as goal

pub returns : goal.returns
returns c = has_answer
