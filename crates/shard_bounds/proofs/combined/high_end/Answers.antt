use Rattle.std.proofs.Common.{rules, FitsSigned, refl, subst, sym, ap, ◌∙◌}
use Rattle.std.specs.Int.{w128}
use Rattle.std.proofs.lemmas.Int.{to_z-of_z}
use Rattle.query_model.specs.Answers.{greatest}
use Rattle.shard_bounds.specs.Combined.{combined}
use Rattle.shard_bounds.proofs.ShardEnds.{ends_of-High}
use Rattle.shard_bounds.proofs.combined.high_end.Goals as goal

pub returns-in-Max-clause-fits : goal.returns-in-Max-clause-fits
returns-in-Max-clause-fits c =
    let number = c.greatest_or_zero.result in
    let fits : FitsSigned w128 number = search rules in
    let is = c.greatest_or_zero.ensures ∙ ap greatest (ends_of-High c.args.shards.now) ∙ ap (λ k. (combined k c.args.shards.now).hi) (sym c.in-Max.is) in
    ((λ t. subst (FitsSigned w128) is fits), (λ f. refl))

pub returns-in-Max-clause-value : goal.returns-in-Max-clause-value
returns-in-Max-clause-value c =
    let number = c.greatest_or_zero.result in
    let fits : FitsSigned w128 number = search rules in
    to_z-of_z w128 number fits ∙ c.greatest_or_zero.ensures ∙ ap greatest (ends_of-High c.args.shards.now) ∙ ap (λ k. (combined k c.args.shards.now).hi) (sym c.in-Max.is)
