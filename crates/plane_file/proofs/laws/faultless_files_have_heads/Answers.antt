use Rattle.plane_file.proofs.SomeHead.{some_head}
use Rattle.plane_file.proofs.laws.faultless_files_have_heads.Goals as goal

pub returns : goal.returns
returns c = some_head
