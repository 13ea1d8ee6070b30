use Rattle.part_rows.proofs.Exact.{order_is_free}
use Rattle.part_rows.proofs.laws.order_is_free.Goals as goal

pub returns : goal.returns
returns c = order_is_free
