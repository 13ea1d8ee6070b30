use Rattle.clip_bounds.proofs.ClipBounds.{clips_lie_within}
use Rattle.clip_bounds.proofs.laws.clips_lie_within.Goals as goal

pub returns : goal.returns
returns c = clips_lie_within
