use Rattle.report_parts.proofs.Headlines.{exact_certain}
use Rattle.report_parts.proofs.laws.combined_exact_averages_are_certain.Goals as goal

pub returns : goal.returns
returns c = exact_certain c.hulls_contain.ensures c.hulls_nest.ensures
