use Rattle.std.proofs.Common.{◌≡◌, slice_get, ◌∙◌, arith, to_z, of_z}
use Rattle.std.specs.Int.{w128}
use Rattle.std.proofs.lemmas.Int.{ints}
use Rattle.query_model.specs.Bounds.{greatest_sum, least_sum}
use Rattle.clip_bounds.specs.Clipped.{clipped_pairs}
use Rattle.clip_bounds.specs.Sums.{IsSumWithClip}
use Rattle.round_engine.proofs.Kept.{if_some_also}
use Rattle.clip_bounds.proofs.Engines.{the_value, whole_sum}
use Rattle.clip_bounds.proofs.sums.clipped_sum.Goals as goal

pub returns : goal.returns
returns c =
    let stage = c.args.engine.now in
    let clip = c.args.clip in
    let plain = c.args.plain.now in
    let low : to_z w128 (of_z w128 c.least_sum.result) ≡ c.least_sum.result = omega (arith, ints) in
    let high : to_z w128 (of_z w128 c.greatest_sum.result) ≡ c.greatest_sum.result = omega (arith, ints) in
    if_some_also (slice_get stage.query.items c.args.item) (λ i. IsSumWithClip stage i clip plain) _ c.requires.sum (λ i is sum.
    whole_sum stage i clip plain (to_z w128 (of_z w128 c.least_sum.result)) (to_z w128 (of_z w128 c.greatest_sum.result)) sum c.requires.full
    (low ∙ the_value (slice_get stage.query.items c.args.item) (λ j. c.least_sum.result ≡ least_sum (clipped_pairs stage j clip)) i c.least_sum.ensures is)
    (high ∙ the_value (slice_get stage.query.items c.args.item) (λ j. c.greatest_sum.result ≡ greatest_sum (clipped_pairs stage j clip)) i c.greatest_sum.ensures is))
