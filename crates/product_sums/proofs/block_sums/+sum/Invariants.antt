-- Measures of the calls, and what the loop over planes keeps.
use Rattle.std.proofs.Common.{◌≡◌, ◌+◌, ◌-◌, ◌*◌, IfSome}
use Rattle.std.specs.Int.{int_wrap, w128}
use Rattle.query_model.specs.Knowledge.{known_at}
use Rattle.query_model.specs.Queries.{term_of}
use Rattle.product_sums.specs.Fetched.{IsLone}
use Rattle.product_sums.specs.Products.{product_at}
use Rattle.product_sums.proofs.DigitSums.{first_digits}
use Rattle.product_sums.proofs.Sizes.{size, sizes}
use Rattle.product_sums.proofs.block_sums.+sum.Given as goal

abbrev pub decreases-sum_first : goal.decreases-sum_first
decreases-sum_first l = 6 * (size (term_of l.first.term.now) + sizes l.rest.now)

abbrev pub decreases-sum_both : goal.decreases-sum_both
decreases-sum_both l = 6 * (size (term_of l.parts.first.term.now) + (size (term_of l.parts.second.term.now) + sizes l.rest.now)) + 1

abbrev pub decreases-sum_products : goal.decreases-sum_products
decreases-sum_products l = 6 * sizes l.factors.now + 1

abbrev pub decreases-sum_times : goal.decreases-sum_times
decreases-sum_times l = 6 * sizes l.factors.now + 2

abbrev pub decreases-sum_rest : goal.decreases-sum_rest
decreases-sum_rest l = 6 * sizes l.rest.now + 2

abbrev pub decreases-sum_digits : goal.decreases-sum_digits
decreases-sum_digits l = 6 * sizes l.rest.now + 3

abbrev pub decreases-sum_column : goal.decreases-sum_column
decreases-sum_column l = 6 * sizes l.rest.now + 4

abbrev pub invariant-sum_digits-loop-j : goal.invariant-sum_digits-loop-j
invariant-sum_digits-loop-j l = record {
  sum : l.sum ≡ int_wrap w128 (first_digits l.columns l.block l.rows (product_at l.columns l.rest) l.column ((known_at l.columns.known l.column).read - l.j));
  fetched : IfSome l.fetched (λ words. IsLone l.columns l.block l.rest words l.room.planes);
}
