use Rattle.plane_reads.proofs.Answers.{words_have_answers}
use Rattle.plane_reads.proofs.laws.words_have_answers.Goals as goal

pub returns : goal.returns
returns c = words_have_answers
