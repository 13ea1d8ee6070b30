-- The clipped bound of an item can be shown under its face.
use Rattle.std.proofs.Common.{Option, IfSome, sym, ap, subst}
use Rattle.query_model.specs.declared.bounds.Bound.{Bound}
use Rattle.query_model.specs.declared.query.Face.{Face}
use Rattle.query_model.specs.declared.query.Item.{Item}
use Rattle.query_model.specs.declared.query.TypedQuery.{TypedQuery}
use Rattle.round_engine.specs.Promises.{IsShownWithin}
use Rattle.daq_report.specs.Ends.{CanShowBound}
use Rattle.daq_report.proofs.Faces.{bound_shows}
use Rattle.daq_report.proofs.extras.write_clip_of.Goals as goal

pub write_clip-requires : goal.write_clip-requires
write_clip-requires g c =
    let stage = c.args.engine.now in
    let item = c.args.item.now in
    let bound = c.in-Some.bound in
    let told = subst (λ (o : Option Item). IfSome o (λ i. IfSome c.clip_bound.result (IsShownWithin stage.frame i.face))) c.requires.there c.clip_bound.ensures.shown in
    let shown = subst (λ (o : Option Bound). IfSome o (IsShownWithin stage.frame item.face)) c.in-Some.is told in
    let can = bound_shows c.args.head.now stage.query stage.frame c.args.place item bound c.requires.fits c.requires.texts c.query.ensures.open_query c.requires.there shown in
    let shows = subst (λ (q : TypedQuery). CanShowBound c.args.head.now q item.face bound) (sym c.query.ensures.query) can in
    subst (λ (f : Face). CanShowBound c.args.head.now c.query.result.now f bound) (sym (ap (λ (i : Item). i.face) c.item.view_is)) shows
