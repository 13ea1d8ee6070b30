use Rattle.report_text.proofs.OneText.{texts_are_no_values}
use Rattle.report_text.proofs.laws.texts_are_no_values.Goals as goal

pub returns : goal.returns
returns c = texts_are_no_values
