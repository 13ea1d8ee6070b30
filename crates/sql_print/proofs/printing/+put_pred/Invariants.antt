-- Measures of the calls: an operand is lower than its condition.
use Rattle.std.proofs.Common.{◌*◌, ◌+◌}
use Rattle.sql_text.specs.Tree.{pred_of}
use Rattle.sql_print.proofs.TreeSize.{height}
use Rattle.sql_print.proofs.printing.+put_pred.Given as goal

abbrev pub decreases-put_negated : goal.decreases-put_negated
decreases-put_negated l = 2 * height (pred_of l.pred.now) + 1

abbrev pub decreases-put_pred : goal.decreases-put_pred
decreases-put_pred l = 2 * height (pred_of l.pred.now)
