use Rattle.std.proofs.Common.{◌≡◌, ◌-◌}
use Rattle.std.specs.Int.{int_wrap, w128}
use Rattle.query_model.specs.Knowledge.{known_at}
use Rattle.product_sums.specs.KeptProducts.{whole_number}
use Rattle.product_sums.proofs.DigitSums.{first_digits}
use Rattle.product_sums.proofs.moved_sums.sum_both.Given as goal

abbrev pub invariant-loop-j : goal.invariant-loop-j
invariant-loop-j l =
    l.sum ≡ int_wrap w128 (first_digits l.columns l.block l.rows (whole_number l.columns l.pair.first) l.pair.second ((known_at l.columns.known l.pair.second).read - l.j))
