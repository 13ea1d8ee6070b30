use Rattle.query_kinds.proofs.OneKind.{kinds_are_one}
use Rattle.query_kinds.proofs.laws.kinds_are_one.Goals as goal

pub returns : goal.returns
returns c = kinds_are_one c.one_answer.ensures.queries
