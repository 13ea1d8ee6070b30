use Rattle.std.proofs.Common.{◌≡◌}
use Rattle.product_sums.specs.KeptProducts.{ArePairSums}
use Rattle.product_sums.proofs.pair_sums.read_first.Given as goal

abbrev pub invariant-loop-j : goal.invariant-loop-j
invariant-loop-j l = record {
  sums : ArePairSums l.columns l.rows l.pair l.sums;
  first : l.sums.first_read ≡ l._j;
  second : l.sums.second_read ≡ l.fn.sums.second_read;
}
