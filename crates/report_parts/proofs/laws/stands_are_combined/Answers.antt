use Rattle.report_parts.proofs.Courses.{stands_combined}
use Rattle.report_parts.proofs.laws.stands_are_combined.Goals as goal

pub returns : goal.returns
returns c = stands_combined
