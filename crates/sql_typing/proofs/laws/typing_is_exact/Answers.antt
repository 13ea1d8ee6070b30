-- The three laws of one answer.
use Rattle.sql_typing.proofs.Exact.{faultless, one_fault, typed_once}
use Rattle.sql_typing.proofs.laws.typing_is_exact.Goals as goal

pub returns-clause-one : goal.returns-clause-one
returns-clause-one c = one_fault

pub returns-clause-none : goal.returns-clause-none
returns-clause-none c = faultless

pub returns-clause-once : goal.returns-clause-once
returns-clause-once c = typed_once
