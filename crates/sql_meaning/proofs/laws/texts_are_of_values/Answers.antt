-- Texts are of values.
use Rattle.sql_meaning.proofs.Spelled.{texts_are}
use Rattle.sql_meaning.proofs.laws.texts_are_of_values.Goals as goal

pub returns : goal.returns
returns c = texts_are
