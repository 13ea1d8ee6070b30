use Rattle.std.proofs.Common.{◌≡◌, ℤ, ◌-ℤ◌, ◌≤ℤ◌, ◌<ℤ◌, nat_abs, true}
use Rattle.query_model.specs.Meaning.{among}
use Rattle.kleene_filter.proofs.ranges.are_all_among.Given as goal

abbrev pub invariant-numbers : goal.invariant-numbers
invariant-numbers l = record {
  above : l.range.lo ≤ℤ l.number;
  below : l.number ≤ℤ l.range.hi;
  passed : (x : ℤ) → l.range.lo ≤ℤ x → x <ℤ l.number → among l.values x ≡ true;
}

abbrev pub decreases-numbers : goal.decreases-numbers
decreases-numbers l = nat_abs (l.range.hi -ℤ l.number)
