use Rattle.clip_bounds.proofs.ClipBounds.{clips_are_extremes}
use Rattle.clip_bounds.proofs.laws.clips_are_extremes.Goals as goal

pub returns : goal.returns
returns c = clips_are_extremes
