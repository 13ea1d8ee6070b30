-- How large an expression is.
use Rattle.std.proofs.Common.{ℕ, ◌+◌}
use Rattle.query_model.specs.Queries.{Term, Column, Literal, Add, Sub, Mul}

abbrev pub size : Term → ℕ
size (Column c) = 0
size (Literal n) = 0
size (Add a b) = size a + size b + 2
size (Sub a b) = size a + size b + 2
size (Mul a b) = size a + size b + 2
