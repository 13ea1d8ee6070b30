use Rattle.table_rounds.proofs.Agreeing.{planes_tell_stages}
use Rattle.table_rounds.proofs.laws.planes_tell_stages.Goals as goal

pub returns : goal.returns
returns c = planes_tell_stages
