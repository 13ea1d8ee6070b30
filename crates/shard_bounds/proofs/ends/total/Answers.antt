use Rattle.std.proofs.Common.{rules, FitsSigned, ◌≡◌, ◌+◌, ◌≤◌, drop, arith, ℤ, pos, ◌+ℤ◌, nat_abs, subst, sym, ◌∙◌, Some, None}
use Rattle.std.specs.Int.{w128}
use Rattle.std.proofs.lemmas.Int.{ints}
use Rattle.query_model.specs.Answers.{total}
use Rattle.shard_bounds.specs.declared.wide.Wide.{Wide}
use Rattle.shard_bounds.specs.Ends.{ends_of}
use Rattle.shard_bounds.specs.Wide.{wide}
use Rattle.shard_bounds.proofs.EndSums.{total_more}
use Rattle.shard_bounds.proofs.ends.total.Goals as goal
use Rattle.shard_bounds.proofs.ends.total.Goals.{in-Some, in_default}

plus_zero : (z : ℤ) → z ≡ z +ℤ pos 0
plus_zero z = omega (arith, ints)

pub loop-shard-preserved : goal.loop-shard-preserved
loop-shard-preserved c =
    let end = c.args.end in
    let shards = c.args.shards.now in
    let i = c.loop-shard.shard-index in
    let old = c.loop-shard.sum in
    let turned = c.loop-shard.invariant.1 in
    elim c.match-end_of.branch [
      | in-Some w ↦
          (let turns = w.plus-sum.ensures.turns in
          let number = w.in-Some.number in
          let fits : FitsSigned w128 number = search rules in
          let sum : wide w.plus-sum.result.turns w.plus-sum.result.rest ≡ wide old.turns old.rest +ℤ number = omega (arith, ints, w.plus-sum.ensures.sum) in
          subst (λ (s : Wide). (wide s.turns s.rest +ℤ total (ends_of end (drop (i + 1) shards)) ≡ total (ends_of end shards)) × (nat_abs s.turns ≤ i + 1)) (sym w.sum-is) (
            total_more end shards i _ (Some w.in-Some.number) (wide old.turns old.rest) _ _ c.loop-shard-test.true (sym w.in-Some.is ∙ c.end_of.ensures) c.loop-shard.invariant.0 sum,
            omega arith,
          ))
      | in_default w ↦
          subst (λ (s : Wide). (wide s.turns s.rest +ℤ total (ends_of end (drop (i + 1) shards)) ≡ total (ends_of end shards)) × (nat_abs s.turns ≤ i + 1)) (sym w.sum-is) (
            total_more end shards i _ None (wide old.turns old.rest) _ _ c.loop-shard-test.true (sym w.in_default.is ∙ c.end_of.ensures) c.loop-shard.invariant.0 (plus_zero (wide old.turns old.rest)),
            omega arith,
          )
    ]
