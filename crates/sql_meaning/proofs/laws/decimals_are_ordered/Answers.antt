-- Decimals are in one order.
use Rattle.sql_meaning.proofs.Order.{decimals_ordered}
use Rattle.sql_meaning.proofs.laws.decimals_are_ordered.Goals as goal

pub returns : goal.returns
returns c = decimals_ordered
