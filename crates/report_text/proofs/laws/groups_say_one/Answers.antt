use Rattle.report_text.proofs.OneGroup.{groups_say_one}
use Rattle.report_text.proofs.laws.groups_say_one.Goals as goal

pub returns : goal.returns
returns c = groups_say_one
