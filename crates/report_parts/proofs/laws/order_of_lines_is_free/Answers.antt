use Rattle.report_parts.proofs.Commutes.{order_free}
use Rattle.report_parts.proofs.laws.order_of_lines_is_free.Goals as goal

pub returns : goal.returns
returns c = order_free
