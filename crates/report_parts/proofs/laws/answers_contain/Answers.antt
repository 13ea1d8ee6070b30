use Rattle.report_parts.proofs.Certain.{contain}
use Rattle.report_parts.proofs.laws.answers_contain.Goals as goal

pub returns : goal.returns
returns c = contain c.combinations_contain.ensures
