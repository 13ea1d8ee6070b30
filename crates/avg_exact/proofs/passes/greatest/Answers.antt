use Rattle.std.proofs.Common.{◌+◌, ◌<◌, subst, sym, ap, ◌∙◌, arith, option_map}
use Rattle.avg_exact.specs.declared.passes.RowValue.{RowValue}
use Rattle.avg_exact.specs.Passes.{greatest_of}
use Rattle.avg_exact.proofs.RowPasses.{CutTurns, HasGreatest, greatest_goes_on, greatest_turns, size_fits, value_turns}
use Rattle.avg_exact.proofs.passes.greatest.Goals as goal

pub loop-row-preserved : goal.loop-row-preserved
loop-row-preserved c =
    let stage = c.args.engine.now in
    let r = c.loop-row.row in
    let there : r < stage.frame.rows = omega (arith, c.loop-row-test.true, c.rows-row-end.ensures) in
    let is = c.greater-found.ensures ∙ ap (greatest_of c.loop-row.found) c.value_of.ensures in
    record {
      whole = subst (HasGreatest stage c.args.item c.args.end (r + 1)) (sym is)
          (greatest_goes_on stage c.args.item c.args.end r c.value_at.result c.loop-row.found there c.value_at.ensures.value c.loop-row.invariant.whole);
      turns = subst CutTurns (sym is)
          (greatest_turns c.loop-row.found (option_map (λ (v : RowValue). v.value) c.value_at.result) c.loop-row.invariant.turns
          (value_turns _ c.value_at.result (size_fits stage c.args.item r c.requires.averaged there) c.value_at.ensures.small));
    }
