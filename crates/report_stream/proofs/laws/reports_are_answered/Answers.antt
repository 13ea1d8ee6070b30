use Rattle.report_stream.proofs.Accepted.{are_answered}
use Rattle.report_stream.proofs.laws.reports_are_answered.Goals as goal

pub returns : goal.returns
returns c = are_answered (record { kinds = c.kinds_are_one.ensures; besides = c.besides_are_one.ensures; rows = c.rows_are_one.ensures })
