use Rattle.report_stream.proofs.Accepted.{are_one}
use Rattle.report_stream.proofs.laws.reports_are_one.Goals as goal

pub returns : goal.returns
returns c = are_one (record { kinds = c.kinds_are_one.ensures; besides = c.besides_are_one.ensures; rows = c.rows_are_one.ensures })
