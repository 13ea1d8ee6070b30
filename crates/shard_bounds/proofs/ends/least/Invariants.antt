use Rattle.std.proofs.Common.{◌≡◌, drop}
use Rattle.std.specs.Int.{int_min}
use Rattle.query_model.specs.declared.query.ItemKind.TheVariants.{Min}
use Rattle.query_model.specs.Answers.{answer}
use Rattle.shard_bounds.specs.Ends.{ends_of}
use Rattle.shard_bounds.proofs.Answers.{join}
use Rattle.shard_bounds.proofs.ends.least.Given as goal

abbrev pub invariant-loop-shard : goal.invariant-loop-shard
invariant-loop-shard l = join int_min l.least (answer Min (ends_of l.end (drop l.shard-index l.shards))) ≡ answer Min (ends_of l.end l.shards)
