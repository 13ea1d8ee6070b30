use Rattle.std.proofs.Common.{◌≢◌, [], slice_get, sym, subst}
use Rattle.query_model.specs.declared.query.ItemKind.TheVariants.{Avg}
use Rattle.query_model.specs.Bounds.{pairs}
use Rattle.round_engine.specs.Promises.{IsShownWithin}
use Rattle.round_engine.proofs.Kept.{bound_at, has_numbers, if_some_also, open_at, open_item_at, totals_at}
use Rattle.round_engine.proofs.Certain.{bound_is_certain}
use Rattle.round_engine.proofs.Shown.{pairs_within, shown_within}
use Rattle.round_engine.proofs.engine_view.EngineView.plain.Goals as goal

pub bound-requires : goal.bound-requires
bound-requires c =
    let e = c.self.inside in
    let stage = c.args.self.now in
    let totals = c.totals.result.now in
    has_numbers stage totals.bounds.items c.args.item (totals_at e.columns e.follower.now stage totals c.self.invariant c.self.view_is c.totals.ensures) c.requires.item c.requires.kind

pub returns-clause-bound : goal.returns-clause-bound
returns-clause-bound c =
    let e = c.self.inside in
    let stage = c.args.self.now in
    let totals = c.totals.result.now in
    bound_at stage totals.bounds.items c.args.item (totals_at e.columns e.follower.now stage totals c.self.invariant c.self.view_is c.totals.ensures) c.bound.result c.bound.ensures

pub returns-clause-certain : goal.returns-clause-certain
returns-clause-certain c =
    let e = c.self.inside in
    let stage = c.args.self.now in
    let kept = open_at e.columns e.follower.now stage c.self.invariant c.self.view_is in
    if_some_also (slice_get stage.query.items c.args.item) (λ i. i.kind ≢ Avg) _ c.requires.kind (λ i is kind head fits.
    bound_is_certain stage i [] head c.bounds_contain_on_tables.ensures c.bounds_are_extremes_on_tables.ensures c.bounds_become_exact_on_tables.ensures c.words_become_exact.ensures c.fitting_heads_have_parts.ensures kept.knowledge kind fits)

pub returns-clause-shown : goal.returns-clause-shown
returns-clause-shown c =
    let e = c.self.inside in
    let stage = c.args.self.now in
    let kept = open_at e.columns e.follower.now stage c.self.invariant c.self.view_is in
    let totals = c.totals.result.now in
    let is_bound = bound_at stage totals.bounds.items c.args.item (totals_at e.columns e.follower.now stage totals c.self.invariant c.self.view_is c.totals.ensures) c.bound.result c.bound.ensures in
    if_some_also (slice_get stage.query.items c.args.item) _ _ is_bound (λ i is same.
    subst (IsShownWithin stage.frame i.face) (sym same)
    (shown_within i.kind i.arg i.face stage.frame (pairs stage.query i [] stage.frame stage.known) (open_item_at stage c.args.item i kept is).face
    (pairs_within stage.query i [] stage.frame stage.known kept.knowledge)))
