use Rattle.std.proofs.Common.{◌≡◌, [], slice_get, Some, sym, subst}
use Rattle.round_engine.proofs.Kept.{if_some_also}
use Rattle.round_engine.specs.Promises.{IsShownWithin}
use Rattle.query_model.specs.Bounds.{bound_under}
use Rattle.clip_bounds.specs.Clips.{clip_of}
use Rattle.clip_bounds.specs.Clipped.{clipped_in}
use Rattle.clip_bounds.proofs.Engines.{clip_is_certain, clip_is_shown, the_value}
use Rattle.clip_bounds.proofs.bound.bound_with.Goals as goal

pub returns-clause-certain : goal.returns-clause-certain
returns-clause-certain c =
    let stage = c.args.engine.now in
    let own = c.column_of-known.ensures in
    if_some_also (slice_get stage.query.items c.args.item) (λ i. clip_of stage.query i ≡ Some c.args.clip) _ c.requires.clip (λ i is has head fits. clip_is_certain stage i c.args.clip head has own.longs own.knowledge fits)

pub returns-clause-shown : goal.returns-clause-shown
returns-clause-shown c =
    let stage = c.args.engine.now in
    let own = c.column_of-known.ensures in
    let items = slice_get stage.query.items c.args.item in
    if_some_also items (λ i. clip_of stage.query i ≡ Some c.args.clip) _ c.requires.clip (λ i is has.
    subst (IsShownWithin stage.frame i.face) (sym (the_value items (λ j. c.clipped_bound.result ≡ clipped_in stage j c.args.clip) i c.clipped_bound.ensures is))
    (clip_is_shown stage i c.args.clip has own.longs own.knowledge
    (subst (IsShownWithin stage.frame i.face) (the_value items (λ j. c.plain-plain.result ≡ bound_under stage.query j [] stage.frame stage.known) i c.plain-plain.ensures.bound is)
    (the_value items (λ j. IsShownWithin stage.frame j.face c.plain-plain.result) i c.plain-plain.ensures.shown is))))
