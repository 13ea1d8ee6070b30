-- Each number can be shown as an average.
use Rattle.std.proofs.Common.{◌≡◌, ◌∙◌, true, sym, ap, subst}
use Rattle.query_model.specs.declared.query.Face.{Face}
use Rattle.query_model.specs.declared.query.Item.{Item}
use Rattle.query_model.specs.declared.query.TypedQuery.{TypedQuery}
use Rattle.daq_report.specs.Ends.{CanShowAny}
use Rattle.daq_report.specs.Extras.{is_average}
use Rattle.daq_report.proofs.Faces.{number_of_average_shows, open_at}
use Rattle.daq_report.proofs.extras.write_extras.Goals as goal

pub write_exact-requires : goal.write_exact-requires
write_exact-requires g c =
    let stage = c.args.engine.now in
    let item = c.args.item.now in
    let head = c.args.head.now in
    let own = open_at stage.frame stage.query.items c.args.place item c.query.ensures.open_query.items c.requires.there in
    let average : is_average item.kind ≡ true = sym (ap (λ (i : Item). is_average i.kind) c.item.view_is) ∙ sym c.is_average.ensures ∙ c.if-is_average.true in
    let any = number_of_average_shows head stage.query item.kind item.arg item.face own.face average in
    let shows = subst (λ (q : TypedQuery). CanShowAny head q item.face) (sym c.query.ensures.query) any in
    subst (λ (f : Face). CanShowAny head c.query.result.now f) (sym (ap (λ (i : Item). i.face) c.item.view_is)) shows
