use Rattle.plane_schedule.proofs.One.{choices_are_one}
use Rattle.plane_schedule.proofs.laws.choices_are_one.Goals as goal

pub returns : goal.returns
returns c = choices_are_one
