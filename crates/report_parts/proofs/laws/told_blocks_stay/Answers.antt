use Rattle.report_parts.proofs.Stays.{blocks_stay}
use Rattle.report_parts.proofs.laws.told_blocks_stay.Goals as goal

pub returns : goal.returns
returns c = blocks_stay
