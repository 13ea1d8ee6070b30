-- How much is left to multiply out.
use Rattle.std.proofs.Common.{ℕ, ◌+◌, List, [], ◌∷◌}
use Rattle.query_model.specs.Queries.{Term, Column, Literal, Add, Sub, Mul, term_of}
use Rattle.product_sums.specs.declared.factors.Factor.{Factor}

abbrev pub size : Term → ℕ
size (Column c) = 1
size (Literal n) = 1
size (Add a b) = 1 + size a + size b
size (Sub a b) = 1 + size a + size b
size (Mul a b) = 1 + size a + size b

abbrev pub sizes : List Factor → ℕ
sizes [] = 0
sizes (f ∷ fs) = size (term_of f.term.now) + sizes fs
