use Rattle.round_engine.proofs.Kept.{groups_at}
use Rattle.round_engine.proofs.engine_view.EngineView.cells.Goals as goal

pub returns : goal.returns
returns c =
    let e = c.self.inside in
    let stage = c.args.self.now in
    let are = groups_at e.columns e.follower.now stage c.groups.result.now c.self.invariant c.self.view_is c.groups.ensures in
    record { cells = c.count.ensures stage are }
