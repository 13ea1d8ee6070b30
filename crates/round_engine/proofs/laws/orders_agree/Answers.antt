use Rattle.round_engine.proofs.Interleaved.{orders_agree}
use Rattle.round_engine.proofs.laws.orders_agree.Goals as goal

pub returns : goal.returns
returns c = orders_agree
