use Rattle.plane_file.proofs.FileFaults.{files_show_no_fault, show_one_fault}
use Rattle.plane_file.proofs.laws.file_faults_are_exact.Goals as goal

pub returns-clause-one : goal.returns-clause-one
returns-clause-one c = show_one_fault

pub returns-clause-none : goal.returns-clause-none
returns-clause-none c = files_show_no_fault
