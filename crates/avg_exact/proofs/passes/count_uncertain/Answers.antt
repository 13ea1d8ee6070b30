use Rattle.std.proofs.Common.{◌≡◌, ◌+◌, ◌<◌, ◌≤◌, cond, subst, sym, arith, rules}
use Rattle.avg_exact.specs.declared.passes.End.TheVariants.{High}
use Rattle.avg_exact.specs.Passes.{is_uncertain}
use Rattle.avg_exact.proofs.RowPasses.{HasUncertain, uncertain_few, uncertain_goes_on}
use Rattle.avg_exact.proofs.passes.count_uncertain.Goals as goal

pub loop-row-preserved : goal.loop-row-preserved
loop-row-preserved c =
    let stage = c.args.engine.now in
    let r = c.loop-row.row in
    let there : r < stage.frame.rows = omega (arith, c.loop-row-test.true, c.rows-row-end.ensures) in
    let one : c.from-count.result ≡ cond c.is_uncertain.result 1 0 = search (rules, c.from-count.ensures) in
    let is : c.from-count.result ≡ cond (is_uncertain c.value_at.result) 1 0 = subst (λ b. c.from-count.result ≡ cond b 1 0) c.is_uncertain.ensures one in
    record {
      whole = subst (λ n. HasUncertain stage c.args.item High (r + 1) (c.loop-row.count + n)) (sym is)
          (uncertain_goes_on stage c.args.item High r c.value_at.result c.loop-row.count there c.value_at.ensures.value c.loop-row.invariant.whole);
      few = subst (λ n. c.loop-row.count + n ≤ r + 1) (sym is)
          (uncertain_few stage c.args.item r c.loop-row.count (is_uncertain c.value_at.result) c.requires.averaged there c.loop-row.invariant.few);
    }
