use Rattle.std.proofs.Common.{◌≡◌, map, ap, sym, ◌∙◌}
use Rattle.kleene_filter.specs.Filters.{is_certain, is_possible}
use Rattle.known_column.specs.Columns.{rows_of_column}
use Rattle.known_column.specs.KnownTables.{column_at}
use Rattle.query_model.specs.declared.query.Shape.TheVariants.{Top}
use Rattle.round_engine.specs.Engines.{stage_of}
use Rattle.round_engine.specs.Rankings.{column_in}
use Rattle.round_engine.proofs.RankedRows.{ranking_judged, rows_within}
use Rattle.round_engine.proofs.RowPairs.{rows_of_mask}
use Rattle.round_engine.proofs.ranking.Ranking.judge.Goals as goal

pub judge-requires-clause-must : goal.judge-requires-clause-must
judge-requires-clause-must c = rows_of_mask is_certain c.must.result.now c.args.filter.now.truths c.args.query.now.pred c.args.columns.now c.must.ensures c.requires.judged ∙ sym c.requires.holds.rows

pub judge-requires-clause-may : goal.judge-requires-clause-may
judge-requires-clause-may c = rows_of_mask is_possible c.may.result.now c.args.filter.now.truths c.args.query.now.pred c.args.columns.now c.may.ensures c.requires.judged ∙ sym c.requires.holds.rows

pub judge-requires-clause-within : goal.judge-requires-clause-within
judge-requires-clause-within c = rows_within c.args.filter.now.truths c.must.result.now c.may.result.now c.must.ensures c.may.ensures

pub returns : goal.returns
returns c =
    let stage = stage_of c.args.query.now c.args.columns.now in
    let k = c.args.self.now.key in
    let key : c.column-key.result.now ≡ column_in stage k = c.column-key.ensures.column ∙ ap (column_at c.args.columns.now) c.from.ensures in
    let rows : rows_of_column (column_in stage k) ≡ stage.frame.rows = ap rows_of_column (sym key) ∙ c.column-key.ensures.rows in
    let old = c.args.self.now.top in
    let new = c.judge.new.self in
    let order : stage.query.shape ≡ Top k new.down new.limit = c.requires.holds.order ∙ ap (λ d. Top k d old.limit) (sym c.judge.ensures.down) ∙ ap (λ n. Top k new.down n) (sym c.judge.ensures.limit) in
    ranking_judged stage (record { key = k; top = new }) rows order c.standings_stand.ensures c.must.result.now c.may.result.now c.column-key.result.now (c.must.ensures ∙ ap (map is_certain) c.requires.judged)
    (c.may.ensures ∙ ap (map is_possible) c.requires.judged) key c.judge.ensures.judged
