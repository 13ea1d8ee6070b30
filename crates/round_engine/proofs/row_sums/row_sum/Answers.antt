use Rattle.std.proofs.Common.{◌∙◌}
use Rattle.round_engine.proofs.RowSums.{sum_kept}
use Rattle.round_engine.proofs.row_sums.row_sum.Goals as goal

pub returns-then-is_small_sum : goal.returns-then-is_small_sum
returns-then-is_small_sum c = c.sum_rows.ensures ∙ sum_kept _ _ (c.is_small_sum.ensures.kind c.if-is_small_sum.true)
