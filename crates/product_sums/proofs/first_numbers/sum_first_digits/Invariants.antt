use Rattle.std.proofs.Common.{◌≡◌, ◌-◌, []}
use Rattle.std.specs.Int.{int_wrap, w128}
use Rattle.query_model.specs.Knowledge.{known_at}
use Rattle.product_sums.specs.Products.{product_at}
use Rattle.product_sums.proofs.DigitSums.{first_digits}
use Rattle.product_sums.proofs.first_numbers.sum_first_digits.Given as goal

abbrev pub invariant-loop-j : goal.invariant-loop-j
invariant-loop-j l = l.sum ≡ int_wrap w128 (first_digits l.columns l.block l.rows (product_at l.columns []) l.column ((known_at l.columns.known l.column).read - l.j))
