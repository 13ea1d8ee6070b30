use Rattle.std.proofs.Common.{count_by, ap, ◌∙◌}
use Rattle.plane_kernels.proofs.BlockRows.{counted_rows}
use Rattle.product_sums.proofs.rows.Rows.count.Goals as goal

pub returns : goal.returns
returns c = c.count_ones.ensures ∙ counted_rows c.self.inside.rows c.self.inside.words c.self.invariant ∙ ap (count_by (λ b. b)) c.self.view_is
