-- Each text has a cut.
use Rattle.sql_tokens.proofs.SomeCut.{some_cut}
use Rattle.sql_tokens.proofs.cut.some_cut.Goals as goal

pub returns : goal.returns
returns c = some_cut
