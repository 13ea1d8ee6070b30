use Rattle.std.proofs.Common.{◌≡◌, slice_get, sym, ◌∙◌, arith}
use Rattle.std.proofs.lemmas.Int.{ints}
use Rattle.round_engine.proofs.Kept.{if_some_also}
use Rattle.clip_bounds.specs.Sums.{IsItemWithClip, is_sum}
use Rattle.clip_bounds.proofs.Passing.{HasNumbers}
use Rattle.clip_bounds.proofs.Engines.{not_always_word, other_bound, sum_kind, the_value}
use Rattle.clip_bounds.proofs.bound.clipped_bound.Goals as goal

pub clipped_sum-requires-clause-sum : goal.clipped_sum-requires-clause-sum
clipped_sum-requires-clause-sum c =
    let stage = c.args.engine.now in
    let items = slice_get stage.query.items c.args.item in
    if_some_also items (λ i. IsItemWithClip stage i c.args.clip c.args.plain) _ c.requires.clipped (λ i is own.
    record { clipped = own; kind = sum_kind i.kind (sym (the_value items (λ j. c.is_sum.result ≡ is_sum j.kind) i c.is_sum.ensures is) ∙ c.if-is_sum.true); some = not_always_word c.args.plain.null (sym c.is_always.ensures ∙ c.if-is_always.false) })

pub returns-else-is_sum : goal.returns-else-is_sum
returns-else-is_sum c =
    let stage = c.args.engine.now in
    let full : HasNumbers c.args.clip = omega (arith, ints) in
    let items = slice_get stage.query.items c.args.item in
    if_some_also items (λ i. IsItemWithClip stage i c.args.clip c.args.plain) _ c.requires.clipped (λ i is own.
    c.clipped_ends.ensures ∙ other_bound stage i c.args.clip c.args.plain own (sym (the_value items (λ j. c.is_sum.result ≡ is_sum j.kind) i c.is_sum.ensures is) ∙ c.if-is_sum.false) full (not_always_word c.args.plain.null (sym c.is_always.ensures ∙ c.if-is_always.false)))
