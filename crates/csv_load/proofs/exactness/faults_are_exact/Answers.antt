use Rattle.csv_load.proofs.OneFault.{faultless, one_fault}
use Rattle.csv_load.proofs.exactness.faults_are_exact.Goals as goal

pub returns-clause-one : goal.returns-clause-one
returns-clause-one c = one_fault

pub returns-clause-none : goal.returns-clause-none
returns-clause-none c = faultless
