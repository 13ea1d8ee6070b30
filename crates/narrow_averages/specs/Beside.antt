-- The bound of an average beside which the sum and the number of its values are told.
use Rattle.std.specs.Prelude.{ℕ, ℤ, pos, ◌^◌, neg_ℤ, int_le, int_lt, nat_lt, Bool, ◌&&◌}
use Rattle.std.specs.Prelude.{List, [], ◌∷◌, map, IsTrue, if◌then◌else◌}
use Rattle.std.specs.declared.option.Option.{Option}
use Rattle.interval_calc.specs.Intervals.{Fraction}
use Rattle.query_model.specs.declared.bounds.Bound.{Bound}
use Rattle.query_model.specs.declared.query.ItemKind.TheVariants.{Count, Sum}
use Rattle.query_model.specs.Answers.{answer, average}
use Rattle.query_model.specs.Bounds.{Admits, AdmitsAverage, AverageBound, IsNested, IsNestedAverage, Pair, average_bound_of, bound_of}
use Rattle.shard_bounds.specs.Averages.{AreDivisible, IsDivisible, ReportsAverage, TellsAverage, apart, average_from, is_exact, meet_of_two}
use Rattle.shard_bounds.specs.Combined.{combined}
use Rattle.shard_bounds.specs.Laws.{AreAllPairs, Tells, flattened}

-- ---- ends that are put apart where they can be

-- twice its sum is a number of 128 bits, and twice its number of values one of 64
abbrev pub can_double : Fraction → Bool
can_double fraction = int_le (neg_ℤ (pos (2 ^ 126))) fraction.num && (int_lt fraction.num (pos (2 ^ 126)) && nat_lt fraction.den (2 ^ 63))

-- apart, where the high end written otherwise fits
abbrev pub apart_if_fit : AverageBound → AverageBound
apart_if_fit bound = if can_double bound.hi then apart bound else bound

-- ---- the average beside its sum and its number of values

-- what lies in the bound from the sum and the number and in another one; it looks exact only where they tell both
abbrev pub beside_from : AverageBound → AverageBound → AverageBound
beside_from from other = if is_exact from then meet_of_two from other else apart_if_fit (meet_of_two from other)

-- numbers of values have 64 bits
abbrev pub is_counted : Bound → Bool
is_counted count = int_lt count.lo (pos (2 ^ 64)) && int_lt count.hi (pos (2 ^ 64))

-- the narrower bound of an average of which another one is told
abbrev pub average_beside : Bound → Bound → AverageBound → AverageBound
average_beside sum count other = if is_counted count then beside_from (average_from sum count) other else other

-- ---- laws

-- some values have that sum, that number and that average
pub record AdmitValues (sum count : Bound) (other : AverageBound) (values : List ℤ) : Type 0 where
  pub sum_admits : Admits sum (answer Sum values)
  pub count_admits : Admits count (answer Count values)
  pub other_admits : AdmitsAverage other (average values)

pub record BesidesStand : Type 0 where
  -- it contains the average
  pub contain : (sum count : Bound) (other : AverageBound) (values : List ℤ) → IsDivisible other → AdmitValues sum count other values →
      AdmitsAverage (average_beside sum count other) (average values)
  -- with narrower bounds it is narrower
  pub nest : (sum count new_sum new_count : Bound) (other new_other : AverageBound) (values : List ℤ) →
      AreDivisible (other ∷ new_other ∷ []) → IsNested sum new_sum → IsNested count new_count → IsNestedAverage other new_other →
      AdmitValues new_sum new_count new_other values →
      IsNestedAverage (average_beside sum count other) (average_beside new_sum new_count new_other)
  -- it lies in the other bound
  pub narrow : (sum count : Bound) (other : AverageBound) (values : List ℤ) → IsDivisible other → AdmitValues sum count other values →
      IsNestedAverage other (average_beside sum count other)
  -- and in the one that all rows together have, where the sum and the number are those over shards
  pub as_one : (pss : List (List Pair)) (other : AverageBound) (x : Option (ℤ × ℕ)) → AreAllPairs pss → IsDivisible other →
      IsTrue (is_counted (combined Count (map (bound_of Count) pss))) →
      AdmitsAverage (average_bound_of (flattened pss)) x → AdmitsAverage other x →
      IsNestedAverage (average_bound_of (flattened pss))
      (average_beside (combined Sum (map (bound_of Sum) pss)) (combined Count (map (bound_of Count) pss)) other)
  -- where the sum and the number are told, it says them
  pub tell : (sum count : Bound) (other : AverageBound) (values : List ℤ) → IsTrue (is_counted count) → Tells sum (answer Sum values) →
      Tells count (answer Count values) → AdmitsAverage other (average values) →
      TellsAverage (average_beside sum count other) (average values)
  -- where the other bound is a report of the average, so is this one: it looks exact only where it says the sum and the number of the values
  pub report : (sum count : Bound) (other : AverageBound) (values : List ℤ) → IsDivisible other → AdmitValues sum count other values →
      ReportsAverage other (average values) → IsTrue (can_double (meet_of_two (average_from sum count) other).hi) →
      ReportsAverage (average_beside sum count other) (average values)
