-- What is typed is valid.
use Rattle.sql_typing.proofs.Valid.{valid}
use Rattle.sql_typing.proofs.laws.typed_queries_are_valid.Goals as goal

pub returns : goal.returns
returns c = valid
