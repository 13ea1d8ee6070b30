use Rattle.topk_bounds.specs.Standings.{is_possible}
use Rattle.round_engine.proofs.Kept.{ranking_at}
use Rattle.round_engine.proofs.RankedRows.{rows_standing}
use Rattle.round_engine.proofs.engine_view.EngineView.possible_rows.Goals as goal

pub returns : goal.returns
returns c =
    let e = c.self.inside in
    let stage = c.args.self.now in
    let ranking = c.ranking.result.now in
    rows_standing stage ranking is_possible c.possible.result.now (ranking_at e.columns e.follower.now stage ranking c.self.invariant c.self.view_is c.ranking.ensures) c.possible.ensures
