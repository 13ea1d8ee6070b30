use Rattle.std.proofs.Common.{◌≡◌, pos, ◌+ℤ◌, ◌≤ℤ◌, ◌<ℤ◌, ◌⊎◌, inl, inr, map, slice_get, FitsSigned, rules, sym, subst, ◌∙◌, arith, to_z, of_z}
use Rattle.std.specs.Int.{int_max, w128}
use Rattle.std.proofs.lemmas.Int.{ints, clamps}
use Rattle.query_model.specs.declared.bounds.Nullity.TheVariants.{Never}
use Rattle.query_model.specs.Answers.{total}
use Rattle.query_model.specs.Bounds.{low_share}
use Rattle.round_engine.proofs.Kept.{if_some_also}
use Rattle.clip_bounds.specs.Clipped.{clipped_pairs, pairs_in}
use Rattle.clip_bounds.specs.Sums.{IsSumWithClip}
use Rattle.clip_bounds.proofs.Engines.{least_sum_alone, least_sum_by_move, never_word, not_never_word, sums_fit, the_item, the_value}
use Rattle.clip_bounds.proofs.sums.least_sum.Goals as goal
use Rattle.clip_bounds.proofs.sums.least_sum.Goals.{After-sum_move, else-clip-gt0-via-then-clip-gt0+else-is_uncertain, else-clip-gt0-via-else-clip-gt0}

-- the clip does not begin above 0, or some row is certain
moves : (c : After-sum_move) → (c.args.clip.low ≤ℤ pos 0) ⊎ (c.args.plain.now.null ≡ Never)
moves c = elim c.else-clip-gt0.branch [
  | else-clip-gt0-via-then-clip-gt0+else-is_uncertain w ↦ inr (never_word c.args.plain.now.null (sym w.is_uncertain.ensures ∙ w.if-is_uncertain.false))
  | else-clip-gt0-via-else-clip-gt0 w ↦ (let not_above = w.if-clip-gt0.false in inl (omega (arith, ints)))
]

again_low : (c : After-sum_move) → to_z w128 (of_z w128 c.args.plain.now.lo) ≡ c.args.plain.now.lo
again_low c = omega (arith, ints)

again_move : (c : After-sum_move) → to_z w128 (of_z w128 c.sum_move.result) ≡ c.sum_move.result
again_move c = omega (arith, ints)

pub overflow_add-result : goal.overflow_add-result
overflow_add-result c =
    let stage = c.args.engine.now in
    let items = slice_get stage.query.items c.args.item in
    let low : FitsSigned w128 c.args.plain.now.lo = search rules in
    let high : FitsSigned w128 c.args.plain.now.hi = search rules in
    let own = the_item stage.query.items c.args.item (λ i. IsSumWithClip stage i c.args.clip c.args.plain.now) c.requires.item c.requires.sum in
    let moved = the_value items (λ j. total (map low_share (clipped_pairs stage j c.args.clip)) ≡ (total (map low_share (pairs_in stage j)) +ℤ c.sum_move.result)) own.0 c.sum_move.ensures own.1 in
    let is = least_sum_by_move stage own.0 c.args.clip c.args.plain.now c.sum_move.result own.2 moved (moves c) in
    subst (λ z. FitsSigned w128 (z +ℤ to_z w128 (of_z w128 c.sum_move.result))) (sym (again_low c)) (subst (λ z. FitsSigned w128 (c.args.plain.now.lo +ℤ z)) (sym (again_move c))
    (subst (FitsSigned w128) (sym is) (sums_fit stage own.0 c.args.clip c.args.plain.now own.2 c.requires.full low high).0))

pub returns-then-is_uncertain : goal.returns-then-is_uncertain
returns-then-is_uncertain c =
    let stage = c.args.engine.now in
    let clip = c.args.clip in
    let above : pos 0 <ℤ clip.low = omega (arith, ints) in
    let value : to_z w128 (of_z w128 c.max.result) ≡ int_max c.args.plain.now.lo clip.low = omega (arith, ints, clamps, c.max.ensures.value) in
    if_some_also (slice_get stage.query.items c.args.item) (λ i. IsSumWithClip stage i clip c.args.plain.now) _ c.requires.sum (λ i is sum.
    value ∙ least_sum_alone stage i clip c.args.plain.now sum above (not_never_word c.args.plain.now.null (sym c.is_uncertain.ensures ∙ c.if-is_uncertain.true)))

pub returns-else-clip-gt0 : goal.returns-else-clip-gt0
returns-else-clip-gt0 c =
    let stage = c.args.engine.now in
    let clip = c.args.clip in
    let items = slice_get stage.query.items c.args.item in
    let sum : to_z w128 (of_z w128 (to_z w128 (of_z w128 c.args.plain.now.lo) +ℤ to_z w128 (of_z w128 c.sum_move.result))) ≡ (c.args.plain.now.lo +ℤ c.sum_move.result) = omega (arith, ints, overflow_add-result c) in
    if_some_also items (λ i. IsSumWithClip stage i clip c.args.plain.now) _ c.requires.sum (λ i is own.
    sum ∙ least_sum_by_move stage i clip c.args.plain.now c.sum_move.result own (the_value items (λ j. total (map low_share (clipped_pairs stage j clip)) ≡ (total (map low_share (pairs_in stage j)) +ℤ c.sum_move.result)) i c.sum_move.ensures is) (moves c))
