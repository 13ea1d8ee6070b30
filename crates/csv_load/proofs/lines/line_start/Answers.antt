use Rattle.std.proofs.Common.{◌∙◌}
use Rattle.csv_load.proofs.LineFacts.{break_passed}
use Rattle.csv_load.proofs.lines.line_start.Goals as goal

pub loop-at-preserved : goal.loop-at-preserved
loop-at-preserved c = c.loop-at.invariant ∙ break_passed c.args.text.now c.loop-at.at c.loop-at-test.true (c.is_break.ensures.yes c.if-not-is_break.false)
