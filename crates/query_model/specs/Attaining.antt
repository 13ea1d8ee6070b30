-- Which items attain both ends of their bounds: those that read each column once, and more.
use Rattle.std.specs.Prelude.{◌≡◌, ℕ, ◌==◌, pos, ◌≤ℤ◌, Bool, true, false, not, List, [], ◌∷◌, ◌++◌}
use Rattle.std.specs.Prelude.{IsTrue, IsFalse, ◌⊎◌, if◌then◌else◌}
use Rattle.std.specs.declared.option.Option.TheVariants.{Some}
use Rattle.std.specs.List.{list_any, AllByRecursion}
use Rattle.query_model.specs.declared.query.Atom.{Atom}
use Rattle.query_model.specs.declared.query.Atom.TheVariants.{Compare, CompareColumns, Between, OneOf, IsNull}
use Rattle.query_model.specs.declared.query.Comparison.{Comparison}
use Rattle.query_model.specs.declared.query.Comparison.TheVariants.{Eq, Ne, Lt, Le, Gt, Ge}
use Rattle.query_model.specs.Queries.{Term, Column, Literal, Add, Sub, Mul, Aggregate, Query}
use Rattle.query_model.specs.Queries.{Condition, All, Single, Both, Either, Negation}
use Rattle.query_model.specs.Meaning.{Row, atom_truth, columns_of, columns_of_atom, columns_of_pred}
use Rattle.query_model.specs.Truths.{Ranges, span_of}
use Rattle.query_model.specs.Answers.{groups_of}
use Rattle.query_model.specs.Validity.{no_repeats}

-- let each column move one way, up or down. Then the expression moves up, or down: a sum where both sides do, a difference where the
-- first side does and the second moves the other way, and a product where both sides do and none can be below 0
abbrev pub Moves : (ℕ → Bool) → Bool → Term → Ranges → Type 0
Moves ways up (Column c) ranges = ways c ≡ up
Moves ways up (Literal n) ranges = Unit {0}
Moves ways up (Add a b) ranges = Moves ways up a ranges × Moves ways up b ranges
Moves ways up (Sub a b) ranges = Moves ways up a ranges × Moves ways (not up) b ranges
Moves ways up (Mul a b) ranges =
    Moves ways up a ranges × Moves ways up b ranges
    × (pos 0 ≤ℤ (span_of a ranges).low) × (pos 0 ≤ℤ (span_of b ranges).low)

-- each column, however often it stands in the expression, moves it one way
abbrev pub GoesOneWay : Term → Ranges → Type 0
GoesOneWay e ranges = (ways : ℕ → Bool) × Moves ways true e ranges

-- both ends of the expression's span are attained: it names no column twice, or each column moves it one way
abbrev pub AttainsSpan : Term → Ranges → Type 0
AttainsSpan e ranges = IsTrue (no_repeats (columns_of e)) ⊎ GoesOneWay e ranges

-- no column stands in both lists
abbrev pub NoneShared : List ℕ → List ℕ → Type 0
NoneShared xs ys = AllByRecursion (λ x. IsFalse (list_any (λ y. x == y) ys)) xs

-- ---- conditions

abbrev pub is_range_comparison : Comparison → Bool
is_range_comparison Eq = true
is_range_comparison Ne = false
is_range_comparison Lt = true
is_range_comparison Le = true
is_range_comparison Gt = true
is_range_comparison Ge = true

-- the atom asks whether a column lies in a range: a comparison with a number, but for "not equal", or a BETWEEN
abbrev pub is_range : Atom → Bool
is_range (Compare c op v) = is_range_comparison op
is_range (CompareColumns l op r) = false
is_range (Between c low high) = true
is_range (OneOf c values) = false
is_range (IsNull c) = false

-- the ranges among the operands of the condition's top ANDs, and what stands there beside them
abbrev pub ranges_in : Condition → List Atom
ranges_in All = []
ranges_in (Single atom) = if is_range atom then atom ∷ [] else []
ranges_in (Both a b) = ranges_in a ++ ranges_in b
ranges_in (Either a b) = []
ranges_in (Negation a) = []

abbrev pub beside_ranges : Condition → Condition
beside_ranges All = All
beside_ranges (Single atom) = if is_range atom then All else Single atom
beside_ranges (Both a b) = Both (beside_ranges a) (beside_ranges b)
beside_ranges (Either a b) = Either a b
beside_ranges (Negation a) = Negation a

-- where both are ranges of one column, a number is in both
abbrev pub Meet : Atom → Atom → Type 0
Meet a b = columns_of_atom a ≡ columns_of_atom b → (row : Row) × (atom_truth a row ≡ Some true) × (atom_truth b row ≡ Some true)

abbrev pub AllMeet : List Atom → Type 0
AllMeet [] = Unit {0}
AllMeet (a ∷ atoms) = AllByRecursion (Meet a) atoms × AllMeet atoms

-- the ranges of one column meet, and taken as one range they leave no column that condition and group columns name twice
pub record JoinsRanges (pred : Condition) (groups : List ℕ) : Type 0 where
  pub meet : AllMeet (ranges_in pred)
  pub once : IsTrue (no_repeats (columns_of_pred (beside_ranges pred) ++ groups))
  pub apart : AllByRecursion (λ a. NoneShared (columns_of_atom a) (columns_of_pred (beside_ranges pred) ++ groups)) (ranges_in pred)

-- where it is not known whether a row counts, both may be so: condition and group columns together name no column twice, but for ranges
-- of one column that are joined by AND and meet
abbrev pub AttainsTruths : Condition → List ℕ → Type 0
AttainsTruths pred groups = IsTrue (no_repeats (columns_of_pred pred ++ groups)) ⊎ JoinsRanges pred groups

-- ---- items

-- the item attains the ends of its bound, as each read-once item does: condition and group columns attain their truths and name no column
-- of the argument, and the argument attains its span
pub record AttainsEnds (query : Query) (item : Aggregate) (ranges : Ranges) : Type 0 where
  pub rows : AttainsTruths query.pred (groups_of query.shape)
  pub apart : NoneShared (columns_of_pred query.pred ++ groups_of query.shape) (columns_of item.arg)
  pub argument : AttainsSpan item.arg ranges
