-- The lines are written in order.
use Rattle.std.proofs.Common.{◌∙◌, ap, arith}
use Rattle.query_model.specs.declared.query.TypedQuery.{TypedQuery}
use Rattle.daq_report.proofs.Lines.{item_there, line_after, line_cut}
use Rattle.daq_report.proofs.items.write_items.Goals as goal

pub returns-in_err-write_item : goal.returns-in_err-write_item
returns-in_err-write_item g c =
    let stage = c.args.engine.now in
    let same = c.as_slice-items.ensures ∙ ap (λ (q : TypedQuery). q.items) (c.behind-engine.view_is ∙ c.query.ensures.query) in
    let there = item_there stage.query.items c.as_slice-items.result.now c.loop-place.place c.index-items-place.result same (omega arith) c.index-items-place.is in
    line_cut _ _ _ c.args.head.now stage c.args.scope stage.query.items c.loop-place.place c.index-items-place.result _ _ _ there c.loop-place.invariant c.from_residual.ensures.0 c.in_err-write_item.ensures

pub loop-place-preserved : goal.loop-place-preserved
loop-place-preserved g c =
    let stage = c.args.engine.now in
    let same = c.as_slice-items.ensures ∙ ap (λ (q : TypedQuery). q.items) (c.behind-engine.view_is ∙ c.query.ensures.query) in
    let there = item_there stage.query.items c.as_slice-items.result.now c.loop-place.place c.index-items-place.result same (omega arith) c.index-items-place.is in
    line_after _ _ _ c.args.head.now stage c.args.scope stage.query.items c.loop-place.place c.index-items-place.result _ _ _ there c.loop-place.invariant c.in_ok-write_item.ensures
