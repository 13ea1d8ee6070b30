use Rattle.kleene_filter.proofs.BlockBits.{not_in}
use Rattle.kleene_filter.proofs.lanes.unset.Goals as goal

pub returns : goal.returns
returns c = λ row few. not_in row c.args.rows.now c.told-rows few
