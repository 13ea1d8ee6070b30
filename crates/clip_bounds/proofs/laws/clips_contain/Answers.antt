use Rattle.clip_bounds.proofs.ClipBounds.{clips_contain}
use Rattle.clip_bounds.proofs.laws.clips_contain.Goals as goal

pub returns : goal.returns
returns c = clips_contain
