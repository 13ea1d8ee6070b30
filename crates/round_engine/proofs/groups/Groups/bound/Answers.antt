use Rattle.std.proofs.Common.{sym, ap, ◌∙◌}
use Rattle.query_model.specs.Bounds.{bound_of}
use Rattle.query_model.specs.Groups.{pairs_in_cell}
use Rattle.round_engine.proofs.CellKept.{item_running, same_cells}
use Rattle.round_engine.proofs.Kept.{if_some}
use Rattle.round_engine.proofs.groups.Groups.bound.Goals as goal

pub bound-requires-clause-kind : goal.bound-requires-clause-kind
bound-requires-clause-kind c = λ average.
    let r = c.requires in
    let here = item_running r.stage c.args.self.now.runnings.items c.args.item r.aggregate c.index.result.now r.answered.items r.at c.index.ensures in
    r.form (sym here.has_room.kind ∙ average)

pub returns : goal.returns
returns c = λ stage are. if_some _ _ (λ i at.
    let r = c.requires in
    let running = c.index.result.now in
    let cell = c.args.cell in
    let here = item_running stage c.args.self.now.runnings.items c.args.item i running are.items at c.index.ensures in
    let there = item_running r.stage c.args.self.now.runnings.items c.args.item r.aggregate running r.answered.items r.at c.index.ensures in
    let ps = pairs_in_cell stage.query i cell stage.frame stage.known in
    c.bound.ensures ps (here.stands cell (same_cells stage r.stage i r.aggregate running cell here there r.within)) ∙ ap (λ k. bound_of k ps) here.has_room.kind)
