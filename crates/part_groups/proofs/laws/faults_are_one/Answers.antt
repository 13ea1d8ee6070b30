use Rattle.part_groups.proofs.Once.{faults_are_one}
use Rattle.part_groups.proofs.laws.faults_are_one.Goals as goal

pub returns : goal.returns
returns c = faults_are_one
