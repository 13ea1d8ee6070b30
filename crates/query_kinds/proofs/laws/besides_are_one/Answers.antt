use Rattle.query_kinds.proofs.Besides.{besides_are_one}
use Rattle.query_kinds.proofs.laws.besides_are_one.Goals as goal

pub returns : goal.returns
returns c = besides_are_one c.one_answer.ensures.queries
