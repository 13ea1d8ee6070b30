use Rattle.report_text.proofs.OneRow.{tops_say_one}
use Rattle.report_text.proofs.laws.tops_say_one.Goals as goal

pub returns : goal.returns
returns c = tops_say_one
