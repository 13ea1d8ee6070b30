use Rattle.kleene_filter.proofs.BlockBits.{in_both}
use Rattle.kleene_filter.proofs.lanes.both.Goals as goal

pub returns : goal.returns
returns c = λ row few. in_both row c.args.rows.now c.args.others.now c.told-rows c.told-others few
