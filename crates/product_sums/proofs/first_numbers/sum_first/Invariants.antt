use Rattle.std.proofs.Common.{◌≡◌, ◌*◌, pos, take}
use Rattle.std.specs.Int.{int_wrap, w128}
use Rattle.product_sums.specs.KeptProducts.{first_number}
use Rattle.product_sums.specs.Products.{sum_over}
use Rattle.product_sums.proofs.first_numbers.sum_first.Given as goal

abbrev pub invariant-loop-block : goal.invariant-loop-block
invariant-loop-block l = record {
  count : l.count ≡ int_wrap w128 (sum_over (take (512 * l.block) l.rows) (λ r. pos 1));
  numbers : l.numbers ≡ int_wrap w128 (sum_over (take (512 * l.block) l.rows) (λ r. pos (first_number l.columns l.column l.read r)));
}
