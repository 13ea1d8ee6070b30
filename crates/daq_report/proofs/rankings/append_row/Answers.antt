-- The front, where the sort key lies, and the line's end.
use Rattle.std.proofs.Common.{subst, sym}
use Rattle.query_model.specs.declared.query.Face.TheVariants.{OfColumn}
use Rattle.query_model.specs.declared.query.TypedQuery.{TypedQuery}
use Rattle.daq_report.specs.Ends.{CanShowBound}
use Rattle.daq_report.proofs.Faces.{column_shows}
use Rattle.daq_report.proofs.rankings.append_row.Goals as goal

pub append_bound-requires-clause-shows : goal.append_bound-requires-clause-shows
append_bound-requires-clause-shows c =
    let stage = c.args.engine.now in
    let can = column_shows c.args.head.now stage.query stage.frame c.args.key c.sort_bound-bound.result c.requires.fits c.requires.texts c.requires.key c.sort_bound-bound.ensures.shown in
    subst (λ (q : TypedQuery). CanShowBound c.args.head.now q (OfColumn c.args.key) c.sort_bound-bound.result) (sym c.query-query.ensures.query) can
