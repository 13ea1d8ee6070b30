-- The bound of an item can be shown under its face.
use Rattle.std.proofs.Common.{Option, IfSome, sym, ap, subst}
use Rattle.query_model.specs.declared.query.Face.{Face}
use Rattle.query_model.specs.declared.query.Item.{Item}
use Rattle.query_model.specs.declared.query.TypedQuery.{TypedQuery}
use Rattle.round_engine.specs.Promises.{IsShownWithin}
use Rattle.daq_report.specs.Ends.{CanShowBound}
use Rattle.daq_report.proofs.Faces.{bound_shows}
use Rattle.daq_report.proofs.items.write_answer.Goals as goal

pub write_bound-requires : goal.write_bound-requires
write_bound-requires g c =
    let stage = c.args.engine.now in
    let item = c.args.item.now in
    let shown = subst (λ (o : Option Item). IfSome o (λ i. IsShownWithin stage.frame i.face c.bound.result)) c.requires.there c.bound.ensures.shown in
    let can = bound_shows c.args.head.now stage.query stage.frame c.args.place item c.bound.result c.requires.fits c.requires.texts c.query-query.ensures.open_query c.requires.there shown in
    let shows = subst (λ (q : TypedQuery). CanShowBound c.args.head.now q item.face c.bound.result) (sym c.query-query.ensures.query) can in
    subst (λ (f : Face). CanShowBound c.args.head.now c.query-query.result.now f c.bound.result) (sym (ap (λ (i : Item). i.face) c.item.view_is)) shows
