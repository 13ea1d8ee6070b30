-- The bound of an average over shards, from the shards' bounds.
use Rattle.std.specs.Prelude.{nat_abs, ◌≡◌, ℕ, ◌+◌, ◌<◌, ◌^◌, ℤ, pos, ◌+ℤ◌, ◌*ℤ◌, int_le, Bool, true, false, ◌&&◌, ◌==◌, List, []}
use Rattle.std.specs.Prelude.{◌∷◌, if◌then◌else◌, FitsSigned, IsTrue}
use Rattle.std.specs.declared.option.Option.{Option}
use Rattle.std.specs.declared.option.Option.TheVariants.{Some, None}
use Rattle.std.specs.Int.{int_max, w128}
use Rattle.std.specs.List.{filter_map, list_all}
use Rattle.std.specs.Ordering.{int_eq}
use Rattle.interval_calc.specs.Intervals.{Fraction}
use Rattle.interval_calc.specs.declared.Fraction as code
use Rattle.query_model.specs.declared.bounds.Bound.{Bound}
use Rattle.query_model.specs.declared.bounds.Nullity.{Nullity}
use Rattle.query_model.specs.declared.bounds.Nullity.TheVariants.{Never, Possibly, Always}
use Rattle.query_model.specs.Bounds.{AverageBound, AdmitsAverage}

-- ---- fractions

-- what a fraction of the code stands for
abbrev pub fraction_of : code.Fraction → Fraction
fraction_of fraction = record { num = fraction.num; den = fraction.den }

abbrev pub lesser : Fraction → Fraction → Fraction
lesser a b = if int_le (a.num *ℤ pos b.den) (b.num *ℤ pos a.den) then a else b

abbrev pub greater : Fraction → Fraction → Fraction
greater a b = if int_le (a.num *ℤ pos b.den) (b.num *ℤ pos a.den) then b else a

-- ---- shards that are not exact: an average lies between the least and the greatest of the shards' averages

-- of two shards; one without an answer adds nothing
abbrev pub round : Nullity → AverageBound → AverageBound → AverageBound
round null a b = record { null = null; lo = lesser a.lo b.lo; hi = greater a.hi b.hi }

abbrev pub hull_by : Nullity → Nullity → AverageBound → AverageBound → AverageBound
hull_by Always w a b = b
hull_by Never Always a b = a
hull_by Never Never a b = round Never a b
hull_by Never Possibly a b = round Never a b
hull_by Possibly Always a b = a
hull_by Possibly Never a b = round Never a b
hull_by Possibly Possibly a b = round Possibly a b

abbrev pub hull_of_two : AverageBound → AverageBound → AverageBound
hull_of_two a b = hull_by a.null b.null a b

abbrev pub no_average : AverageBound
no_average = record { null = Always; lo = record { num = pos 0; den = 1 }; hi = record { num = pos 0; den = 1 } }

abbrev pub hull_of_averages : List AverageBound → AverageBound
hull_of_averages [] = no_average
hull_of_averages (bound ∷ bounds) = hull_of_two bound (hull_of_averages bounds)

-- no denominator is 0
pub record IsDivisible (bound : AverageBound) : Type 0 where
  pub lo : 0 < bound.lo.den
  pub hi : 0 < bound.hi.den

abbrev pub AreDivisible : List AverageBound → Type 0
AreDivisible [] = Unit {0}
AreDivisible (bound ∷ bounds) = IsDivisible bound × AreDivisible bounds

-- ---- shards that are exact: sums and numbers of rows add up

-- both ends are the same sum over the same number of values
abbrev pub is_one_fraction : AverageBound → Bool
is_one_fraction bound = int_eq bound.lo.num bound.hi.num && (bound.lo.den == bound.hi.den)

-- what may be said of a shard: that no row of it gives a value, or their sum and their number, as both ends
abbrev pub exact_by : Nullity → Bool → Bool
exact_by Never one = one
exact_by Possibly one = false
exact_by Always one = true

abbrev pub is_exact : AverageBound → Bool
is_exact bound = exact_by bound.null (is_one_fraction bound)

abbrev pub has_rows : Nullity → Bool
has_rows Never = true
has_rows Possibly = true
has_rows Always = false

abbrev pub fraction_by : Nullity → Fraction → Option Fraction
fraction_by Never fraction = Some fraction
fraction_by Possibly fraction = Some fraction
fraction_by Always fraction = None

-- the sum and the number of each shard that has some
abbrev pub sums_of : List AverageBound → List Fraction
sums_of bounds = filter_map (λ b. fraction_by b.null b.lo) bounds

abbrev pub added_up : List Fraction → Fraction
added_up [] = record { num = pos 0; den = 0 }
added_up (f ∷ fs) = record { num = f.num +ℤ (added_up fs).num; den = f.den + (added_up fs).den }

-- a sum and a number as both ends; where the number is 0 there is no average
abbrev pub exactly : Fraction → AverageBound
exactly sum = if sum.den == 0 then no_average else record { null = Never; lo = sum; hi = sum }

-- ---- ends that are equal and do not look exact

-- the same number, as twice the sum over twice the number of values
abbrev pub doubled : Fraction → Fraction
doubled fraction = record { num = fraction.num +ℤ fraction.num; den = fraction.den + fraction.den }

abbrev pub apart_by : Nullity → Bool → AverageBound → AverageBound
apart_by Never true bound = record { null = Never; lo = bound.lo; hi = doubled bound.hi }
apart_by Never false bound = bound
apart_by Possibly one bound = bound
apart_by Always one bound = bound

-- the same bound, but its ends are not one fraction, as are a sum and a number of values that are told
abbrev pub apart : AverageBound → AverageBound
apart bound = apart_by bound.null (is_one_fraction bound) bound

-- ---- the bound over all shards

-- it looks exact only where each shard does
abbrev pub combined_average : List AverageBound → AverageBound
combined_average bounds = if list_all is_exact bounds then exactly (added_up (sums_of bounds)) else apart (hull_of_averages bounds)

-- the bound says what the sum and the number are
abbrev pub TellsAverage : AverageBound → Option (ℤ × ℕ) → Type 0
TellsAverage bound None = bound.null ≡ Always
TellsAverage bound (Some (s, n)) =
    (bound.null ≡ Never) × (bound.lo ≡ record { num = s; den = n }) × (bound.hi ≡ record { num = s; den = n })

-- what a report gives of an average: it is admitted, and told where the bound looks exact
pub record ReportsAverage (bound : AverageBound) (a : Option (ℤ × ℕ)) : Type 0 where
  pub admits : AdmitsAverage bound a
  pub tells : IsTrue (is_exact bound) → TellsAverage bound a

-- the ends are fractions of the code
pub record FitsFraction (fraction : Fraction) : Type 0 where
  pub num : FitsSigned w128 fraction.num
  pub den : fraction.den < 2 ^ 64

pub record FitsAverage (bound : AverageBound) : Type 0 where
  pub lo : FitsFraction bound.lo
  pub hi : FitsFraction bound.hi

-- ---- from sums and numbers of values

-- as many values as an end says, and one at least: an average is of some values
abbrev pub values_at : ℤ → ℕ
values_at end = nat_abs (int_max end (pos 1))

-- a sum that is not negative is divided by as many values as there may be for the low end, and by as few for the high end
abbrev pub divided : Nullity → Bound → Bound → AverageBound
divided null sum count = record {
  null = null;
  lo = record { num = sum.lo; den = values_at (if int_le (pos 0) sum.lo then count.hi else count.lo) };
  hi = record { num = sum.hi; den = values_at (if int_le (pos 0) sum.hi then count.lo else count.hi) };
}

-- the bound of an average from those of the sum and of the number of the values
abbrev pub average_by : Nullity → Bound → Bound → AverageBound
average_by Always sum count = no_average
average_by Never sum count = divided Never sum count
average_by Possibly sum count = divided Possibly sum count

abbrev pub average_from : Bound → Bound → AverageBound
average_from sum count = average_by sum.null sum count

-- ---- what lies in two bounds

-- of ends that are equal the first bound's
abbrev pub within : Nullity → AverageBound → AverageBound → AverageBound
within null a b = record { null = null; lo = greater b.lo a.lo; hi = lesser a.hi b.hi }

abbrev pub meet_by : Nullity → Nullity → AverageBound → AverageBound → AverageBound
meet_by Always w a b = a
meet_by Never Always a b = b
meet_by Never Never a b = within Never a b
meet_by Never Possibly a b = within Never a b
meet_by Possibly Always a b = b
meet_by Possibly Never a b = within Never a b
meet_by Possibly Possibly a b = within Possibly a b

-- the averages that lie in both
abbrev pub meet_of_two : AverageBound → AverageBound → AverageBound
meet_of_two a b = meet_by a.null b.null a b
