use Rattle.session_script.proofs.Answers.{answers_are_one}
use Rattle.session_script.proofs.laws.answers_are_one.Goals as goal

pub returns : goal.returns
returns c = answers_are_one
