use Rattle.text_extremes.proofs.Saying.{answers_are_shown}
use Rattle.text_extremes.proofs.laws.answers_are_shown.Goals as goal

pub returns : goal.returns
returns c = answers_are_shown
