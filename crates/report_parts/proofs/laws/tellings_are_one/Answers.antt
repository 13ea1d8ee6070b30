use Rattle.report_parts.proofs.Telling.{telling_one}
use Rattle.report_parts.proofs.laws.tellings_are_one.Goals as goal

pub returns : goal.returns
returns c = telling_one
