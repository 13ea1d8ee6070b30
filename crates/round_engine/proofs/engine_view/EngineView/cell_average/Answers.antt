use Rattle.std.proofs.Common.{◌≡◌, slice_get}
use Rattle.query_model.specs.declared.query.ItemKind.TheVariants.{Avg}
use Rattle.round_engine.proofs.Certain.{average_is_certain}
use Rattle.round_engine.proofs.Kept.{groups_at, if_some, item_at, of_some, open_at}
use Rattle.round_engine.proofs.engine_view.EngineView.cell_average.Goals as goal

pub average-requires : goal.average-requires
average-requires c =
    let e = c.self.inside in
    let stage = c.args.self.now in
    let are = groups_at e.columns e.follower.now stage c.groups.result.now c.self.invariant c.self.view_is c.groups.ensures in
    let (i, at) = item_at stage.query.items c.args.item c.requires.item in
    record { stage = stage; answered = are; within = c.requires.cell; aggregate = i; at = at; form = of_some (slice_get stage.query.items c.args.item) (λ a. a.kind ≡ Avg) i c.requires.kind at }

pub returns-clause-bound : goal.returns-clause-bound
returns-clause-bound c =
    let e = c.self.inside in
    let stage = c.args.self.now in
    let are = groups_at e.columns e.follower.now stage c.groups.result.now c.self.invariant c.self.view_is c.groups.ensures in
    c.average.ensures stage are

pub returns-clause-certain : goal.returns-clause-certain
returns-clause-certain c =
    let e = c.self.inside in
    let stage = c.args.self.now in
    let kept = open_at e.columns e.follower.now stage c.self.invariant c.self.view_is in
    if_some (slice_get stage.query.items c.args.item) _ (λ i is key belongs head fits.
    average_is_certain stage i key head c.average_bounds_contain_on_tables.ensures c.average_bounds_become_exact_on_tables.ensures c.words_become_exact.ensures c.fitting_heads_have_parts.ensures kept.knowledge fits)
