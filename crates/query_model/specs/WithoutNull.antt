-- What the definitions come to where no value may be null: a condition is true or false,
-- and what is known of it goes by Kleene's connectives.
use Rattle.std.specs.Prelude.{ℕ, ℤ, ◌+ℤ◌, ◌-ℤ◌, ◌*ℤ◌, Bool, true, false, not, ◌&&◌, ◌||◌, List, [], ◌∷◌}
use Rattle.std.specs.Ordering.{int_eq}
use Rattle.interval_calc.specs.Intervals.{Interval}
use Rattle.query_model.specs.Queries.{Term, Column, Literal, Add, Sub, Mul, Condition, All, Single, Both, Either, Negation}
use Rattle.query_model.specs.declared.query.Atom.{Atom}
use Rattle.query_model.specs.declared.query.Atom.TheVariants.{Compare, CompareColumns, Between, OneOf, IsNull}
use Rattle.query_model.specs.declared.bounds.Nullity.TheVariants.{Never}
use Rattle.query_model.specs.declared.bounds.Truth.{Truth}
use Rattle.query_model.specs.declared.bounds.Truth.TheVariants.{False, Unknown, True}
use Rattle.query_model.specs.Meaning.{compares, between, among}
use Rattle.query_model.specs.Truths.{Ranges, and_of, truth_over, truth_over_both}

-- ---- a row of numbers

abbrev pub plain_val : Term → (ℕ → ℤ) → ℤ
plain_val (Column c) row = row c
plain_val (Literal n) row = n
plain_val (Add a b) row = plain_val a row +ℤ plain_val b row
plain_val (Sub a b) row = plain_val a row -ℤ plain_val b row
plain_val (Mul a b) row = plain_val a row *ℤ plain_val b row

abbrev pub plain_atom : Atom → (ℕ → ℤ) → Bool
plain_atom (Compare c op v) row = compares op (row c) v
plain_atom (CompareColumns l op r) row = compares op (row l) (row r)
plain_atom (Between c low high) row = between low high (row c)
plain_atom (OneOf c values) row = among values (row c)
plain_atom (IsNull c) row = false

abbrev pub plain_holds : Condition → (ℕ → ℤ) → Bool
plain_holds All row = true
plain_holds (Single atom) row = plain_atom atom row
plain_holds (Both a b) row = plain_holds a row && plain_holds b row
plain_holds (Either a b) row = plain_holds a row || plain_holds b row
plain_holds (Negation a) row = not (plain_holds a row)

-- ---- ranges of numbers

abbrev pub plain_ranges : (ℕ → Interval) → Ranges
plain_ranges intervals = λ c. record { null = Never; numbers = intervals c }

-- Kleene's connectives; the third is and_of
abbrev pub not_of : Truth → Truth
not_of True = False
not_of Unknown = Unknown
not_of False = True

abbrev pub or_of : Truth → Truth → Truth
or_of True u = True
or_of Unknown True = True
or_of Unknown Unknown = Unknown
or_of Unknown False = Unknown
or_of False u = u

abbrev pub plain_truth_of_atom : Atom → (ℕ → Interval) → Truth
plain_truth_of_atom (Compare c op v) intervals = truth_over (intervals c) (λ x. compares op x v)
plain_truth_of_atom (CompareColumns l op r) intervals = truth_over_both (intervals l) (intervals r) (compares op)
plain_truth_of_atom (Between c low high) intervals = truth_over (intervals c) (between low high)
plain_truth_of_atom (OneOf c values) intervals = truth_over (intervals c) (among values)
plain_truth_of_atom (IsNull c) intervals = False

abbrev pub plain_truth : Condition → (ℕ → Interval) → Truth
plain_truth All intervals = True
plain_truth (Single atom) intervals = plain_truth_of_atom atom intervals
plain_truth (Both a b) intervals = and_of (plain_truth a intervals) (plain_truth b intervals)
plain_truth (Either a b) intervals = or_of (plain_truth a intervals) (plain_truth b intervals)
plain_truth (Negation a) intervals = not_of (plain_truth a intervals)

abbrev pub plain_truth_of_group : List ℕ → List ℤ → (ℕ → Interval) → Truth
plain_truth_of_group [] key intervals = True
plain_truth_of_group (c ∷ cs) [] intervals = False
plain_truth_of_group (c ∷ cs) (k ∷ ks) intervals =
    and_of (truth_over (intervals c) (λ x. int_eq x k)) (plain_truth_of_group cs ks intervals)
