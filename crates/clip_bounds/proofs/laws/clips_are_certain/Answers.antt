use Rattle.clip_bounds.proofs.Certain.{clips_are_certain}
use Rattle.clip_bounds.proofs.laws.clips_are_certain.Goals as goal

pub returns : goal.returns
returns c = clips_are_certain
