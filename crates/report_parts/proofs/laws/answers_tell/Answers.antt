use Rattle.report_parts.proofs.Certain.{tell}
use Rattle.report_parts.proofs.laws.answers_tell.Goals as goal

pub returns : goal.returns
returns c = tell c.combinations_tell.ensures
