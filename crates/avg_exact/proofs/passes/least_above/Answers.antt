use Rattle.std.proofs.Common.{◌+◌, ◌<◌, subst, sym, ap, ◌∙◌, arith}
use Rattle.avg_exact.specs.Passes.{least_of, taken_value}
use Rattle.avg_exact.proofs.RowPasses.{CutTurns, HasLeast, least_goes_on, least_turns, size_fits, taken_turns, value_product}
use Rattle.avg_exact.proofs.passes.least_above.Goals as goal

pub taken_value-requires : goal.taken_value-requires
taken_value-requires c =
    let there : c.loop-row.row < c.args.engine.now.frame.rows = omega (arith, c.loop-row-test.true, c.rows-row-end.ensures) in
    value_product c.args.engine.now c.args.item c.loop-row.row c.args.over.den c.value_at.result c.requires.averaged there c.requires.small c.value_at.ensures.small

pub loop-row-preserved : goal.loop-row-preserved
loop-row-preserved c =
    let stage = c.args.engine.now in
    let r = c.loop-row.row in
    let there : r < stage.frame.rows = omega (arith, c.loop-row-test.true, c.rows-row-end.ensures) in
    let is = c.lesser-least.ensures ∙ ap (least_of c.loop-row.least) c.taken_value.ensures in
    record {
      whole = subst (HasLeast stage c.args.item c.args.end c.args.over (r + 1)) (sym is)
          (least_goes_on stage c.args.item c.args.end c.args.over r c.value_at.result c.loop-row.least there c.value_at.ensures.value c.loop-row.invariant.whole);
      turns = subst CutTurns (sym is)
          (least_turns c.loop-row.least (taken_value c.args.over c.value_at.result) c.loop-row.invariant.turns
          (taken_turns _ c.args.over c.value_at.result (size_fits stage c.args.item r c.requires.averaged there) c.value_at.ensures.small));
    }
