use Rattle.round_engine.proofs.Certain.{key_is_certain}
use Rattle.round_engine.proofs.Kept.{groups_at, open_at}
use Rattle.round_engine.proofs.engine_view.EngineView.cell_absence.Goals as goal

pub absence-requires : goal.absence-requires
absence-requires c =
    let e = c.self.inside in
    let stage = c.args.self.now in
    let are = groups_at e.columns e.follower.now stage c.groups.result.now c.self.invariant c.self.view_is c.groups.ensures in
    record { stage = stage; answered = are; within = c.requires.cell }

pub returns-clause-absence : goal.returns-clause-absence
returns-clause-absence c =
    let e = c.self.inside in
    let stage = c.args.self.now in
    let are = groups_at e.columns e.follower.now stage c.groups.result.now c.self.invariant c.self.view_is c.groups.ensures in
    c.absence.ensures stage are

pub returns-clause-certain : goal.returns-clause-certain
returns-clause-certain c key is head fits =
    let e = c.self.inside in
    let stage = c.args.self.now in
    let kept = open_at e.columns e.follower.now stage c.self.invariant c.self.view_is in
    key_is_certain stage key head c.results_are_told_on_tables.ensures c.words_become_exact.ensures c.fitting_heads_have_parts.ensures kept.knowledge fits
