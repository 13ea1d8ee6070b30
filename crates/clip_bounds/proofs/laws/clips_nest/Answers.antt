use Rattle.clip_bounds.proofs.ClipBounds.{clips_nest}
use Rattle.clip_bounds.proofs.laws.clips_nest.Goals as goal

pub returns : goal.returns
returns c = clips_nest
