use Rattle.report_parts.proofs.TextHeadlines.{clips_certain}
use Rattle.report_parts.proofs.laws.combined_text_clips_are_certain.Goals as goal

pub returns : goal.returns
returns c = clips_certain c.combinations_contain.ensures c.combinations_nest.ensures c.combinations_tell.ensures
