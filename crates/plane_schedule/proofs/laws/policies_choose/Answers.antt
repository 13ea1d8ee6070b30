use Rattle.plane_schedule.proofs.Existing.{policies_choose}
use Rattle.plane_schedule.proofs.laws.policies_choose.Goals as goal

pub returns : goal.returns
returns c = policies_choose
