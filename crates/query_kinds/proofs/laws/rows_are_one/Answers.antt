use Rattle.query_kinds.proofs.OneOrder.{rows_are_one}
use Rattle.query_kinds.proofs.laws.rows_are_one.Goals as goal

pub returns : goal.returns
returns c = rows_are_one c.one_answer.ensures.queries
