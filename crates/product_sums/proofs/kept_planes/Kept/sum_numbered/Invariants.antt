-- What the loop over the third column's planes keeps: the planes before have followed, the others have not.
use Rattle.std.proofs.Common.{◌≡◌, ℕ, ◌-◌, ◌<◌, ◌≤◌, length, get_or}
use Rattle.std.specs.Int.{int_wrap, w128}
use Rattle.daq_table.specs.Tables.{ends_at, planes}
use Rattle.known_column.specs.KnownTables.{column_at}
use Rattle.query_model.specs.Knowledge.{known_at}
use Rattle.product_sums.specs.Fetched.{first_digit}
use Rattle.product_sums.specs.KeptProducts.{ArePairSums, first_sum, inner_end, no_sums, rows_with}
use Rattle.product_sums.proofs.kept_planes.Kept.sum_numbered.Given as goal

abbrev pub invariant-loop-j : goal.invariant-loop-j
invariant-loop-j l = record {
  whole : l.self.whole ≡ l.fn.self.whole;
  top : l.self.top ≡ l.fn.self.top;
  size : length l.self.planes.items ≡ planes (ends_at l.columns.frame l.third);
  done : (i : ℕ) → first_digit (column_at l.columns l.third) ≤ i → i < l.j → ArePairSums l.columns (rows_with l.columns l.mask l.third i) l.inner.pair (get_or l.self.planes.items i no_sums);
  left : (i : ℕ) → l.j ≤ i → i < (known_at l.columns.known l.third).read → ArePairSums l.columns (rows_with l.columns l.fn.self.whole.mask l.third i) l.inner.pair (get_or l.self.planes.items i no_sums);
  unread : (i : ℕ) → (known_at l.columns.known l.third).read ≤ i → i < length l.self.planes.items → get_or l.self.planes.items i no_sums ≡ no_sums;
  sum : l.sum ≡ int_wrap w128 (first_sum l.columns l.mask l.third (inner_end l.columns l.inner.pair.first l.inner.parts) ((known_at l.columns.known l.third).read - l.j));
}
