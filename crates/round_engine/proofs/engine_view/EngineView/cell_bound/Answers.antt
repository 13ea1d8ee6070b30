use Rattle.std.proofs.Common.{◌≢◌, slice_get, sym, subst}
use Rattle.query_model.specs.declared.query.ItemKind.TheVariants.{Avg}
use Rattle.query_model.specs.Groups.{pairs_in_cell}
use Rattle.round_engine.specs.Promises.{IsShownWithin}
use Rattle.round_engine.proofs.CellNarrow.{cell_pairs_within}
use Rattle.round_engine.proofs.Certain.{bound_is_certain}
use Rattle.round_engine.proofs.Kept.{groups_at, if_some_also, item_at, of_some, open_at, open_item_at}
use Rattle.round_engine.proofs.Shown.{shown_within}
use Rattle.round_engine.proofs.engine_view.EngineView.cell_bound.Goals as goal

pub bound-requires : goal.bound-requires
bound-requires c =
    let e = c.self.inside in
    let stage = c.args.self.now in
    let are = groups_at e.columns e.follower.now stage c.groups.result.now c.self.invariant c.self.view_is c.groups.ensures in
    let (i, at) = item_at stage.query.items c.args.item c.requires.item in
    record { stage = stage; answered = are; within = c.requires.cell; aggregate = i; at = at; form = of_some (slice_get stage.query.items c.args.item) (λ a. a.kind ≢ Avg) i c.requires.kind at }

pub returns-clause-bound : goal.returns-clause-bound
returns-clause-bound c =
    let e = c.self.inside in
    let stage = c.args.self.now in
    let are = groups_at e.columns e.follower.now stage c.groups.result.now c.self.invariant c.self.view_is c.groups.ensures in
    c.bound.ensures stage are

pub returns-clause-certain : goal.returns-clause-certain
returns-clause-certain c =
    let e = c.self.inside in
    let stage = c.args.self.now in
    let kept = open_at e.columns e.follower.now stage c.self.invariant c.self.view_is in
    if_some_also (slice_get stage.query.items c.args.item) (λ i. i.kind ≢ Avg) _ c.requires.kind (λ i is kind key belongs head fits.
    bound_is_certain stage i key head c.bounds_contain_on_tables.ensures c.bounds_are_extremes_on_tables.ensures c.bounds_become_exact_on_tables.ensures c.words_become_exact.ensures c.fitting_heads_have_parts.ensures kept.knowledge kind fits)

pub returns-clause-shown : goal.returns-clause-shown
returns-clause-shown c =
    let e = c.self.inside in
    let stage = c.args.self.now in
    let are = groups_at e.columns e.follower.now stage c.groups.result.now c.self.invariant c.self.view_is c.groups.ensures in
    let kept = open_at e.columns e.follower.now stage c.self.invariant c.self.view_is in
    if_some_also (slice_get stage.query.items c.args.item) _ _ (c.bound.ensures stage are) (λ i is same.
    subst (IsShownWithin stage.frame i.face) (sym same)
    (shown_within i.kind i.arg i.face stage.frame (pairs_in_cell stage.query i c.args.cell stage.frame stage.known) (open_item_at stage c.args.item i kept is).face
    (cell_pairs_within stage i c.args.cell kept.knowledge)))
