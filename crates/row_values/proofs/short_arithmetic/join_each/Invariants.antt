use Rattle.std.proofs.Common.{◌≡◌, ℕ, ◌≤◌, Some, slice_get}
use Rattle.row_values.specs.declared.short.ShortInterval.{ShortInterval}
use Rattle.row_values.specs.ShortSpans.{interval_of, result_of}
use Rattle.row_values.proofs.BlockRows.{HoldsBelow}
use Rattle.row_values.proofs.short_arithmetic.join_each.Given as goal

abbrev pub invariant-loop-i : goal.invariant-loop-i
invariant-loop-i l = record {
  done : HoldsBelow (λ r z. (x y : ShortInterval) → slice_get l.fn.left r ≡ Some x → slice_get l.right r ≡ Some y → interval_of z ≡ result_of l.operation (interval_of x) (interval_of y)) l.i l.left;
  rest : (r : ℕ) → l.i ≤ r → slice_get l.left r ≡ slice_get l.fn.left r;
}
