use Rattle.std.proofs.Common.{subst, arith}
use Rattle.aggregates.specs.Runnings.{IsBlank}
use Rattle.query_model.specs.Queries.{Aggregate}
use Rattle.round_engine.proofs.CellKept.{opened_more}
use Rattle.round_engine.proofs.cell_room.open_each.Goals as goal

pub loop-item-preserved : goal.loop-item-preserved
loop-item-preserved c =
    let pushed = c.in_ok-push.ensures.items in
    let blank = subst (λ (i : Aggregate). IsBlank c.in_ok-open.field-0 i.kind c.args.most c.args.most) c.item.view_is c.in_ok-open.ensures in
    rw pushed (opened_more c.args.most c.as_slice-items.result.now c.loop-item.item-index c.item-item.result c.loop-item.runnings.items c.in_ok-open.field-0 (omega arith) c.item-item.is c.loop-item.invariant blank)
