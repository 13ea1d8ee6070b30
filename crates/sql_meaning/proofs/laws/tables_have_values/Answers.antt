-- Each number of a table stands for a value.
use Rattle.sql_meaning.proofs.Filled.{tables_have}
use Rattle.sql_meaning.proofs.laws.tables_have_values.Goals as goal

pub returns : goal.returns
returns c = tables_have
