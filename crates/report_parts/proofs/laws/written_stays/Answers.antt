use Rattle.report_parts.proofs.Kept as kept
use Rattle.report_parts.proofs.laws.written_stays.Goals as goal

pub returns : goal.returns
returns c = kept.written_stays
