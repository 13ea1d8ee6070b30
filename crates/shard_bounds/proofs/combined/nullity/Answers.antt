use Rattle.std.proofs.Common.{sym, ap, ◌∙◌}
use Rattle.std.specs.Option.{is_some}
use Rattle.shard_bounds.proofs.ShardEnds.{word_never, word_possibly, word_always}
use Rattle.shard_bounds.proofs.combined.nullity.Goals as goal

pub returns-then-some_shard : goal.returns-then-some_shard
returns-then-some_shard c = sym (word_never c.args.shards.now (sym c.some_shard.ensures ∙ c.if-some_shard.true))

pub returns-then-is_some : goal.returns-then-is_some
returns-then-is_some c =
    sym (word_possibly c.args.shards.now (sym c.some_shard.ensures ∙ c.if-some_shard.false) (sym (ap is_some c.least.ensures) ∙ sym c.is_some.ensures ∙ c.if-is_some.true))

pub returns-else-is_some : goal.returns-else-is_some
returns-else-is_some c =
    sym (word_always c.args.shards.now (sym c.some_shard.ensures ∙ c.if-some_shard.false) (sym (ap is_some c.least.ensures) ∙ sym c.is_some.ensures ∙ c.if-is_some.false))
