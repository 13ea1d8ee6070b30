use Rattle.std.proofs.Common.{[], slice_get}
use Rattle.round_engine.proofs.Kept.{average_at, has_fractions, if_some, open_at, totals_at}
use Rattle.round_engine.proofs.Certain.{average_is_certain}
use Rattle.round_engine.proofs.engine_view.EngineView.average.Goals as goal

pub average-requires : goal.average-requires
average-requires c =
    let e = c.self.inside in
    let stage = c.args.self.now in
    let totals = c.totals.result.now in
    has_fractions stage totals.bounds.items c.args.item (totals_at e.columns e.follower.now stage totals c.self.invariant c.self.view_is c.totals.ensures) c.requires.item c.requires.kind

pub returns-clause-bound : goal.returns-clause-bound
returns-clause-bound c =
    let e = c.self.inside in
    let stage = c.args.self.now in
    let totals = c.totals.result.now in
    average_at stage totals.bounds.items c.args.item (totals_at e.columns e.follower.now stage totals c.self.invariant c.self.view_is c.totals.ensures) c.average.result c.average.ensures

pub returns-clause-certain : goal.returns-clause-certain
returns-clause-certain c =
    let e = c.self.inside in
    let stage = c.args.self.now in
    let kept = open_at e.columns e.follower.now stage c.self.invariant c.self.view_is in
    if_some (slice_get stage.query.items c.args.item) _ (λ i is head fits.
    average_is_certain stage i [] head c.average_bounds_contain_on_tables.ensures c.average_bounds_become_exact_on_tables.ensures c.words_become_exact.ensures c.fitting_heads_have_parts.ensures kept.knowledge fits)
