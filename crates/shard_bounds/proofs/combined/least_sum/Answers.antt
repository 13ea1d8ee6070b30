use Rattle.std.proofs.Common.{rules, ◌≡◌, FitsSigned, IsSome, IfSome, refl, subst, sym, ◌∙◌}
use Rattle.std.specs.Int.{w128}
use Rattle.std.proofs.lemmas.Int.{to_z-of_z}
use Rattle.shard_bounds.proofs.ShardEnds.{sum_of_low_shares, lone_low}
use Rattle.shard_bounds.proofs.combined.least_sum.Goals as goal

pub returns-then-some_shard-clause-fits : goal.returns-then-some_shard-clause-fits
returns-then-some_shard-clause-fits c =
    subst (λ z. (IsSome c.total.result → FitsSigned w128 z) × (FitsSigned w128 z → IsSome c.total.result))
    (sym (sum_of_low_shares c.args.shards.now (sym c.some_shard.ensures ∙ c.if-some_shard.true))) c.total.ensures.fits

pub returns-then-some_shard-clause-value : goal.returns-then-some_shard-clause-value
returns-then-some_shard-clause-value c =
    subst (λ z. IfSome c.total.result (λ n. n ≡ z)) (sym (sum_of_low_shares c.args.shards.now (sym c.some_shard.ensures ∙ c.if-some_shard.true))) c.total.ensures.value

pub returns-else-some_shard-clause-fits : goal.returns-else-some_shard-clause-fits
returns-else-some_shard-clause-fits c =
    let number = c.least_or_zero.result in
    let fits : FitsSigned w128 number = search rules in
    let is = c.least_or_zero.ensures ∙ sym (lone_low c.args.shards.now (sym c.some_shard.ensures ∙ c.if-some_shard.false)) in
    ((λ t. subst (FitsSigned w128) is fits), (λ f. refl))

pub returns-else-some_shard-clause-value : goal.returns-else-some_shard-clause-value
returns-else-some_shard-clause-value c =
    let number = c.least_or_zero.result in
    let fits : FitsSigned w128 number = search rules in
    to_z-of_z w128 number fits ∙ c.least_or_zero.ensures ∙ sym (lone_low c.args.shards.now (sym c.some_shard.ensures ∙ c.if-some_shard.false))
