use Rattle.report_parts.proofs.Commutes.{text_one}
use Rattle.report_parts.proofs.laws.combined_text_is_one.Goals as goal

pub returns : goal.returns
returns c = text_one
