use Rattle.round_engine.proofs.Certain.{standing_is_certain}
use Rattle.round_engine.proofs.Kept.{open_at, ranking_at}
use Rattle.round_engine.proofs.RankedRows.{standing_at}
use Rattle.round_engine.proofs.engine_view.EngineView.standing.Goals as goal

pub returns-clause-standing : goal.returns-clause-standing
returns-clause-standing c =
    let e = c.self.inside in
    let stage = c.args.self.now in
    let ranking = c.ranking.result.now in
    standing_at stage ranking c.args.row c.standing.result (ranking_at e.columns e.follower.now stage ranking c.self.invariant c.self.view_is c.ranking.ensures) c.requires.row c.standing.ensures

pub returns-clause-certain : goal.returns-clause-certain
returns-clause-certain c = λ head fits.
    let e = c.self.inside in
    let stage = c.args.self.now in
    let kept = open_at e.columns e.follower.now stage c.self.invariant c.self.view_is in
    standing_is_certain stage c.args.row head c.standings_are_right_on_tables.ensures c.standings_become_exact.ensures c.fitting_heads_have_parts.ensures kept.knowledge c.requires.row fits
