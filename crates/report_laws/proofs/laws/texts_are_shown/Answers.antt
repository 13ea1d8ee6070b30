use Rattle.report_laws.proofs.Texts.{texts_shown}
use Rattle.report_laws.proofs.laws.texts_are_shown.Goals as goal

pub returns : goal.returns
returns c = texts_shown
