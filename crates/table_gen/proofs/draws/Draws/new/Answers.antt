use Rattle.std.proofs.Common.{refl}
use Rattle.table_gen.specs.Draws.{state_at}
use Rattle.table_gen.proofs.draws.Draws.new.Goals as goal

pub returns : goal.returns
unfolding state_at
returns c = refl
