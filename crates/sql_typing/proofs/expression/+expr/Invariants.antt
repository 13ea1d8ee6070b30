-- Measures of the calls: an operand is smaller than its expression.
use Rattle.std.proofs.Common.{◌+◌}
use Rattle.sql_text.specs.Tree.{expr_of}
use Rattle.sql_typing.proofs.Sizes.{size}
use Rattle.sql_typing.proofs.expression.+expr.Given as goal

abbrev pub decreases-sides : goal.decreases-sides
decreases-sides l = size (expr_of l.left.now) + size (expr_of l.right.now) + 1

abbrev pub decreases-typed_product : goal.decreases-typed_product
decreases-typed_product l = size (expr_of l.left.now) + size (expr_of l.right.now) + 1

abbrev pub decreases-typed_expr : goal.decreases-typed_expr
decreases-typed_expr l = size (expr_of l.expr.now)
