use Rattle.text_extremes.proofs.Joining.{order_is_free}
use Rattle.text_extremes.proofs.laws.order_is_free.Goals as goal

pub returns : goal.returns
returns c = order_is_free
