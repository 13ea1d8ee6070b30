use Rattle.topk_bounds.proofs.Searching.{searches_go_on}
use Rattle.topk_bounds.proofs.laws.searches_go_on.Goals as goal

pub returns : goal.returns
returns c = searches_go_on
