-- How large an expression is.
use Rattle.std.proofs.Common.{ℕ, ◌+◌}
use Rattle.sql_text.specs.Tree.{Expr, Column, Number, Add, Sub, Mul}

abbrev pub size : Expr → ℕ
size (Column n) = 0
size (Number v) = 0
size (Add a b) = size a + size b + 2
size (Sub a b) = size a + size b + 2
size (Mul at a b) = size a + size b + 2
