use Rattle.report_text.proofs.OneAnswer.{extras_say_one}
use Rattle.report_text.proofs.laws.extras_say_one.Goals as goal

pub returns : goal.returns
returns c = extras_say_one
