use Rattle.report_parts.proofs.Certain.{nest}
use Rattle.report_parts.proofs.laws.answers_nest.Goals as goal

pub returns : goal.returns
returns c = nest c.combinations_nest.ensures
