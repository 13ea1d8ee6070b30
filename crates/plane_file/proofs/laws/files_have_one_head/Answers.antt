use Rattle.plane_file.proofs.OneHead.{one_head}
use Rattle.plane_file.proofs.laws.files_have_one_head.Goals as goal

pub returns : goal.returns
returns c = one_head
