use Rattle.report_parts.proofs.TextHeadlines.{certain}
use Rattle.report_parts.proofs.laws.combined_texts_are_certain.Goals as goal

pub returns : goal.returns
returns c = certain c.combinations_contain.ensures c.combinations_nest.ensures c.combinations_tell.ensures
