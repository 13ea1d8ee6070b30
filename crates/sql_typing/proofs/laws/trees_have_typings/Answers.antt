-- Each tree has an answer.
use Rattle.sql_typing.proofs.SomeTyping.{has_typing}
use Rattle.sql_typing.proofs.laws.trees_have_typings.Goals as goal

pub returns : goal.returns
returns c = has_typing
