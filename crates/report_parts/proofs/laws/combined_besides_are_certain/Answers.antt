use Rattle.report_parts.proofs.BesideHeadline.{besides_certain}
use Rattle.report_parts.proofs.laws.combined_besides_are_certain.Goals as goal

pub returns : goal.returns
returns c =
    besides_certain c.combinations_contain.ensures c.combinations_nest.ensures c.combinations_tell.ensures c.combinations_report_averages.ensures
    c.averages_nest.ensures c.besides_stand.ensures
