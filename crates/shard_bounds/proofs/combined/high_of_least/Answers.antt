use Rattle.std.proofs.Common.{rules, FitsSigned, sym, ◌∙◌}
use Rattle.std.specs.Int.{w128}
use Rattle.std.proofs.lemmas.Int.{to_z-of_z}
use Rattle.shard_bounds.proofs.ShardEnds.{least_of_certain, least_of_any}
use Rattle.shard_bounds.proofs.combined.high_of_least.Goals as goal

pub returns-then-some_shard : goal.returns-then-some_shard
returns-then-some_shard c =
    let number = c.least_or_zero.result in
    let fits : FitsSigned w128 number = search rules in
    to_z-of_z w128 number fits ∙ c.least_or_zero.ensures ∙ sym (least_of_certain c.args.shards.now (sym c.some_shard.ensures ∙ c.if-some_shard.true))

pub returns-else-some_shard : goal.returns-else-some_shard
returns-else-some_shard c =
    let number = c.greatest_or_zero.result in
    let fits : FitsSigned w128 number = search rules in
    to_z-of_z w128 number fits ∙ c.greatest_or_zero.ensures ∙ sym (least_of_any c.args.shards.now (sym c.some_shard.ensures ∙ c.if-some_shard.false))
