use Rattle.plane_file.proofs.SpelledHead.{faultless}
use Rattle.plane_file.proofs.laws.spelled_files_have_no_fault.Goals as goal

pub returns : goal.returns
returns c = faultless
