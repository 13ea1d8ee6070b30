use Rattle.std.proofs.Common.{arith}
use Rattle.round_engine.proofs.KeptItems.{opened_more}
use Rattle.round_engine.proofs.kept_items.open_items.Goals as goal

pub loop-item-preserved : goal.loop-item-preserved
loop-item-preserved c =
    rw c.in_ok-push.ensures.items (opened_more c.args.rows c.args.items.now c.loop-item.item-index c.item-item.result c.loop-item.kept.items c.in_ok-open_kept.field-0 (omega arith) c.item-item.is c.loop-item.invariant c.in_ok-open_kept.ensures)
