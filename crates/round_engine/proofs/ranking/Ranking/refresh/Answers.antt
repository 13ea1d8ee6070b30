use Rattle.std.proofs.Common.{◌≢◌, ap, sym, ◌∙◌}
use Rattle.kleene_filter.specs.Filters.{stands_in}
use Rattle.query_model.specs.Meaning.{columns_of_pred}
use Rattle.query_model.specs.Queries.{Query}
use Rattle.round_engine.specs.Engines.{stage_of}
use Rattle.round_engine.proofs.RankedRows.{ranking_stays}
use Rattle.round_engine.proofs.ranking.Ranking.refresh.Goals as goal

pub returns-else-from-column : goal.returns-else-from-column
returns-else-from-column c =
    let apart : c.args.self.now.key ≢ c.args.column = λ same. c.if-from-column.false (c.from.ensures ∙ same) in
    let unread = ap (λ (q : Query). stands_in (columns_of_pred q.pred) c.args.column) (sym c.query.view_is) ∙ sym c.pred_reads.ensures ∙ c.if-pred_reads.false in
    ranking_stays (stage_of c.args.query.now c.args.columns.now) c.args.column c.args.plane.now c.args.self.now c.requires.before unread apart
