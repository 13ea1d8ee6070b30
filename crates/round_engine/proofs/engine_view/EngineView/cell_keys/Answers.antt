use Rattle.std.proofs.Common.{◌≡◌, IsSome, refl, sym, subst}
use Rattle.query_model.specs.Answers.{groups_of}
use Rattle.query_model.specs.Groups.{parts_of}
use Rattle.row_groups.specs.Partition.{counts_of_parts, ranges_in, ranges_of_cell}
use Rattle.round_engine.specs.Cells.{AreDeclared, parts_in}
use Rattle.round_engine.proofs.DeclaredKeys.{parts_declared}
use Rattle.round_engine.proofs.Keys.{speaks}
use Rattle.round_engine.proofs.Kept.{groups_at, if_some_also, open_at}
use Rattle.round_engine.proofs.engine_view.EngineView.cell_keys.Goals as goal

pub returns-clause-legal : goal.returns-clause-legal
returns-clause-legal c =
    let e = c.self.inside in
    let stage = c.args.self.now in
    let are = groups_at e.columns e.follower.now stage c.groups.result.now c.self.invariant c.self.view_is c.groups.ensures in
    c.keys.ensures.legal stage are

pub returns-clause-keys : goal.returns-clause-keys
returns-clause-keys c =
    let e = c.self.inside in
    let stage = c.args.self.now in
    let are = groups_at e.columns e.follower.now stage c.groups.result.now c.self.invariant c.self.view_is c.groups.ensures in
    c.keys.ensures.keys stage are

pub returns-clause-declared : goal.returns-clause-declared
returns-clause-declared c =
    let e = c.self.inside in
    let stage = c.args.self.now in
    let are = groups_at e.columns e.follower.now stage c.groups.result.now c.self.invariant c.self.view_is c.groups.ensures in
    let groups = groups_of stage.query.shape in
    let legal = c.keys.ensures.legal stage are in
    if_some_also c.keys.result (λ keys. ranges_in keys ≡ ranges_of_cell (parts_in stage) c.args.cell) (λ keys. AreDeclared stage.frame groups (ranges_in keys)) (c.keys.ensures.keys stage are)
    (λ keys is same.
    subst (AreDeclared stage.frame groups) (sym same)
    (parts_declared stage.frame stage.known groups (parts_of (counts_of_parts (parts_in stage)) c.args.cell) (legal.0 (subst IsSome (sym is) refl))))

pub returns-clause-speaks : goal.returns-clause-speaks
returns-clause-speaks c key is =
    let e = c.self.inside in
    let stage = c.args.self.now in
    let kept = open_at e.columns e.follower.now stage c.self.invariant c.self.view_is in
    speaks
    (record {
      legal = c.legal_cells_have_keys.ensures;
      ranges = c.keys_have_ranges.ensures;
      pairs = c.pairs_go_by_cells.ensures;
      tell = c.cells_tell_keys.ensures;
    })
    stage kept.knowledge c.args.cell key c.requires.cell is
