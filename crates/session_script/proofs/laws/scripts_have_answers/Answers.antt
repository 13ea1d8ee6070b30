use Rattle.session_script.proofs.Answers.{scripts_have_answers}
use Rattle.session_script.proofs.laws.scripts_have_answers.Goals as goal

pub returns : goal.returns
returns c = scripts_have_answers
