use Rattle.part_groups.proofs.WholeFaults.{faults_are_whole}
use Rattle.part_groups.proofs.laws.faults_are_whole.Goals as goal

pub returns : goal.returns
returns c = faults_are_whole c.lines_are_found.ensures c.combined_is_whole.ensures
