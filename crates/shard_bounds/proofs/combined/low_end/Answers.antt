use Rattle.std.proofs.Common.{rules, FitsSigned, refl, subst, sym, ap, ◌∙◌}
use Rattle.std.specs.Int.{w128}
use Rattle.std.proofs.lemmas.Int.{to_z-of_z}
use Rattle.query_model.specs.Answers.{least}
use Rattle.shard_bounds.specs.Combined.{combined}
use Rattle.shard_bounds.proofs.ShardEnds.{ends_of-Low}
use Rattle.shard_bounds.proofs.combined.low_end.Goals as goal

pub returns-in-Min-clause-fits : goal.returns-in-Min-clause-fits
returns-in-Min-clause-fits c =
    let number = c.least_or_zero.result in
    let fits : FitsSigned w128 number = search rules in
    let is = c.least_or_zero.ensures ∙ ap least (ends_of-Low c.args.shards.now) ∙ ap (λ k. (combined k c.args.shards.now).lo) (sym c.in-Min.is) in
    ((λ t. subst (FitsSigned w128) is fits), (λ f. refl))

pub returns-in-Min-clause-value : goal.returns-in-Min-clause-value
returns-in-Min-clause-value c =
    let number = c.least_or_zero.result in
    let fits : FitsSigned w128 number = search rules in
    to_z-of_z w128 number fits ∙ c.least_or_zero.ensures ∙ ap least (ends_of-Low c.args.shards.now) ∙ ap (λ k. (combined k c.args.shards.now).lo) (sym c.in-Min.is)
