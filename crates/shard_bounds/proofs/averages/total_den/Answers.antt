use Rattle.std.proofs.Common.{◌≡◌, drop, map, arith, refl, ap}
use Rattle.std.proofs.lemmas.List.{drop_all}
use Rattle.query_model.specs.Bounds.{fractions_of}
use Rattle.shard_bounds.specs.Averages.{added_up, sums_of}
use Rattle.shard_bounds.proofs.averages.total_den.Goals as goal

pub returns-clause-fits : goal.returns-clause-fits
returns-clause-fits c =
    let shards = c.args.shards.now in
    let fits = c.loop-shard.invariant.1 in
    let rest : (added_up (sums_of (map fractions_of (drop c.loop-shard.shard-index shards)))).den ≡ 0 =
    ap (λ ps. (added_up (sums_of (map fractions_of ps))).den) (drop_all c.loop-shard.shard-index shards c.loop-shard-test.false) in
    let is = c.loop-shard.invariant.0 in
    ((λ t. omega arith), (λ h. refl))
