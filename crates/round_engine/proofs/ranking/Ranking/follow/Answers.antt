use Rattle.std.proofs.Common.{◌≡◌, ap, refl, sym, subst, ◌∙◌}
use Rattle.kleene_filter.specs.Filters.{is_certain, is_possible}
use Rattle.known_column.specs.Columns.{KnownColumn, rows_of_column}
use Rattle.known_column.specs.KnownTables.{column_at}
use Rattle.query_model.specs.declared.query.Shape.TheVariants.{Top}
use Rattle.topk_bounds.specs.Searches.{AreSearching}
use Rattle.round_engine.specs.Engines.{stage_of}
use Rattle.round_engine.specs.Rankings.{column_in, rows_passing}
use Rattle.round_engine.proofs.RankedRows.{goes_on, order_stays, ranking_judged}
use Rattle.round_engine.proofs.ranking.Ranking.follow.Goals as goal

pub follow-requires-clause-searching : goal.follow-requires-clause-searching
follow-requires-clause-searching c =
    let stage = stage_of c.args.query.now c.args.columns.now in
    let key : c.column.result.now ≡ column_in stage c.args.self.now.key = c.column.ensures.column ∙ ap (column_at c.args.columns.now) c.from.ensures in
    subst (λ (k : KnownColumn). AreSearching c.args.self.now.top k) (sym key)
    (goes_on stage c.args.self.now.key c.args.plane.now c.args.self.now c.requires.before c.requires.unread c.searches_go_on.ensures refl).0

pub returns : goal.returns
returns c =
    let stage = stage_of c.args.query.now c.args.columns.now in
    let k = c.args.self.now.key in
    let old = c.args.self.now.top in
    let new = c.follow.new.self in
    let key : c.column.result.now ≡ column_in stage k = c.column.ensures.column ∙ ap (column_at c.args.columns.now) c.from.ensures in
    let rows : rows_of_column (column_in stage k) ≡ stage.frame.rows = ap rows_of_column (sym key) ∙ c.column.ensures.rows in
    let before : stage.query.shape ≡ Top k old.down old.limit = order_stays stage k c.args.plane.now c.args.self.now c.requires.before in
    let order : stage.query.shape ≡ Top k new.down new.limit = before ∙ ap (λ d. Top k d old.limit) (sym c.follow.ensures.down) ∙ ap (λ n. Top k new.down n) (sym c.follow.ensures.limit) in
    let (going, must, may) =
    subst (λ (column : KnownColumn). (g : AreSearching old column) × (g.must ≡ rows_passing is_certain stage) × (g.may ≡ rows_passing is_possible stage)) (sym key)
    (goes_on stage k c.args.plane.now c.args.self.now c.requires.before c.requires.unread c.searches_go_on.ensures refl) in
    ranking_judged stage (record { key = k; top = new }) rows order c.standings_stand.ensures going.must going.may c.column.result.now must may key (c.follow.ensures.judged going)
