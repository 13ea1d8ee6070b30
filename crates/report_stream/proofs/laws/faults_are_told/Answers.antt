use Rattle.report_stream.proofs.Shown.{are_told}
use Rattle.report_stream.proofs.laws.faults_are_told.Goals as goal

pub returns : goal.returns
returns c = are_told (record { kinds = c.kinds_are_one.ensures; besides = c.besides_are_one.ensures; rows = c.rows_are_one.ensures })
