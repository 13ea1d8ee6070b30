use Rattle.report_parts.proofs.Stays.{only_add}
use Rattle.report_parts.proofs.laws.lines_only_add.Goals as goal

pub returns : goal.returns
returns c = only_add
