use Rattle.plane_reads.proofs.Answers.{answers_are_one}
use Rattle.plane_reads.proofs.laws.answers_are_one.Goals as goal

pub returns : goal.returns
returns c = answers_are_one
