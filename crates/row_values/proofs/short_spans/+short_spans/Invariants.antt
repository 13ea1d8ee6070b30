-- Measures of the calls: a part is smaller than its expression.
use Rattle.std.proofs.Common.{◌+◌}
use Rattle.query_model.specs.Queries.{term_of}
use Rattle.row_values.proofs.Sizes.{size}
use Rattle.row_values.proofs.short_spans.+short_spans.Given as goal

abbrev pub decreases-joined_spans : goal.decreases-joined_spans
decreases-joined_spans l = size (term_of l.left.now) + size (term_of l.right.now) + 1

abbrev pub decreases-short_spans : goal.decreases-short_spans
decreases-short_spans l = size (term_of l.expr.now)
