use Rattle.query_model.proofs.Queries.{read_once_items_attain_ends}
use Rattle.query_model.proofs.laws.read_once_items_attain_ends.Goals as goal

pub returns : goal.returns
returns c = read_once_items_attain_ends
