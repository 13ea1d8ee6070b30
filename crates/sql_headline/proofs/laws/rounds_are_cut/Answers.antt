-- Rounds are cut.
use Rattle.sql_headline.proofs.Cut.{rounds_cut}
use Rattle.sql_headline.proofs.laws.rounds_are_cut.Goals as goal

pub returns : goal.returns
returns c = rounds_cut
