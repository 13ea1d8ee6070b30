use Rattle.report_parts.proofs.Headlines.{averages_certain}
use Rattle.report_parts.proofs.laws.combined_averages_are_certain.Goals as goal

pub returns : goal.returns
returns c =
    averages_certain c.combinations_report_averages.ensures c.averages_nest.ensures c.combinations_tell_averages.ensures
