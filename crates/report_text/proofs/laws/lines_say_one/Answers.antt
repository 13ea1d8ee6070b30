use Rattle.report_text.proofs.OneAnswer.{lines_say_one}
use Rattle.report_text.proofs.laws.lines_say_one.Goals as goal

pub returns : goal.returns
returns c = lines_say_one
