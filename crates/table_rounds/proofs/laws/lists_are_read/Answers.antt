use Rattle.table_rounds.proofs.Going.{lists_are_read}
use Rattle.table_rounds.proofs.laws.lists_are_read.Goals as goal

pub returns : goal.returns
returns c = lists_are_read
