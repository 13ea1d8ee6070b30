use Rattle.std.proofs.Common.{◌+◌, ◌*◌, List, Bool, sym, subst}
use Rattle.topk_bounds.specs.Stopping.{Clears}
use Rattle.topk_bounds.proofs.Stopping.{cleared}
use Rattle.topk_bounds.proofs.stop.clear_block.Goals as goal

pub returns-clause-clears : goal.returns-clause-clears
returns-clause-clears c =
    let from = 512 * c.args.block in
    subst (λ (l : List Bool). Clears from (from + 512) c.args.level.now l) (sym c.set_block.ensures) (cleared c.args.level.now from c.requires)
