use Rattle.part_groups.proofs.WholeLaws.{groups_report_averages}
use Rattle.part_groups.proofs.laws.groups_report_averages.Goals as goal

pub returns : goal.returns
returns c = groups_report_averages c.lines_report_averages.ensures
