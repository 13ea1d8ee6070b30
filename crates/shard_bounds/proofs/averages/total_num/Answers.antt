use Rattle.std.proofs.Common.{rules, FitsSigned, ◌≡◌, ◌+◌, ◌≤◌, get_or, arith, ◌+ℤ◌, nat_abs, subst, sym, ◌∙◌, ap}
use Rattle.std.specs.Int.{w128}
use Rattle.std.proofs.lemmas.Int.{ints}
use Rattle.shard_bounds.specs.declared.wide.Wide.{Wide}
use Rattle.shard_bounds.specs.Averages.{has_rows}
use Rattle.shard_bounds.specs.Wide.{wide}
use Rattle.shard_bounds.proofs.AverageSums.{left, num_with, num_without}
use Rattle.shard_bounds.proofs.averages.total_num.Goals as goal
use Rattle.shard_bounds.proofs.averages.total_num.Goals.{then-has_rows, else-has_rows}

pub loop-shard-preserved : goal.loop-shard-preserved
loop-shard-preserved c =
    let shards = c.args.shards.now in
    let i = c.loop-shard.shard-index in
    let old = c.loop-shard.total in
    let turned = c.loop-shard.invariant.1 in
    let shard = c.shard-item.result in
    let number = shard.lo.num in
    let same : number ≡ (get_or shards i shard).lo.num = ap (λ p. p.lo.num) c.shard-item.is in
    let rows : has_rows (get_or shards i shard).null ≡ c.has_rows.result = ap (λ p. has_rows p.null) (sym c.shard-item.is) ∙ sym c.has_rows.ensures in
    elim c.if-has_rows.branch [
      | then-has_rows w ↦
          (let turns = w.plus-total.ensures.turns in
          let fits : FitsSigned w128 number = search rules in
          let sum : wide w.plus-total.result.turns w.plus-total.result.rest ≡ wide old.turns old.rest +ℤ number = omega (arith, ints, w.plus-total.ensures.sum) in
          subst (λ (s : Wide). (wide s.turns s.rest +ℤ (left shards (i + 1)).num ≡ (left shards 0).num) × (nat_abs s.turns ≤ i + 1)) (sym w.total-is)
          (num_with shards i shard (wide old.turns old.rest) _ _ number c.loop-shard-test.true (rows ∙ w.if-has_rows.true) same c.loop-shard.invariant.0 sum, omega arith))
      | else-has_rows w ↦
          subst (λ (s : Wide). (wide s.turns s.rest +ℤ (left shards (i + 1)).num ≡ (left shards 0).num) × (nat_abs s.turns ≤ i + 1)) (sym w.total-is)
          (num_without shards i shard (wide old.turns old.rest) _ c.loop-shard-test.true (rows ∙ w.if-has_rows.false) c.loop-shard.invariant.0, omega arith)
    ]
