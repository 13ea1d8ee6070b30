-- Answers over a table that is cut into shards, and the bound that follows from the shards' bounds.
-- A shard is told by the values that it gives to an item: those of the argument at its rows that count, in units, but for nulls.
use Rattle.std.specs.Prelude.{◌≡◌, ◌≢◌, ℕ, ℤ, pos, ◌≤ℤ◌, true, false, List, [], ◌∷◌, ◌++◌, map, FitsSigned}
use Rattle.std.specs.declared.option.Option.{Option}
use Rattle.std.specs.declared.option.Option.TheVariants.{Some, None}
use Rattle.std.specs.Int.{w128}
use Rattle.std.specs.List.{filter_map}
use Rattle.query_model.specs.declared.bounds.Bound.{Bound}
use Rattle.query_model.specs.declared.bounds.Nullity.{Nullity}
use Rattle.query_model.specs.declared.bounds.Nullity.TheVariants.{Never, Possibly, Always}
use Rattle.query_model.specs.declared.query.ItemKind.{ItemKind}
use Rattle.query_model.specs.declared.query.ItemKind.TheVariants.{Count, Sum, Min, Max, Avg}
use Rattle.query_model.specs.Answers.{total, answer, average}
use Rattle.query_model.specs.Bounds.{Pair, bound_of}

-- ---- the answer over all shards

-- the values of all shards, laid end to end
abbrev pub together : List (List ℤ) → List ℤ
together [] = []
together (values ∷ shards) = values ++ together shards

-- the answer of an item over the rows of all shards
abbrev pub answer_over : ItemKind → List (List ℤ) → Option ℤ
answer_over kind shards = answer kind (together shards)

abbrev pub average_over : List (List ℤ) → Option (ℤ × ℕ)
average_over shards = average (together shards)

-- ---- the bound from the shards' bounds

abbrev pub pair_by_word : Nullity → ℤ → ℤ → Option Pair
pair_by_word Never lo hi = Some (record { certain = true; low = lo; high = hi })
pair_by_word Possibly lo hi = Some (record { certain = false; low = lo; high = hi })
pair_by_word Always lo hi = None

-- a shard is like a row: it gives its answer for certain where that is never NULL, and nothing where it always is
abbrev pub pair_of_shard : Bound → Option Pair
pair_of_shard bound = pair_by_word bound.null bound.lo bound.hi

abbrev pub pairs_of_shards : List Bound → List Pair
pairs_of_shards bounds = filter_map pair_of_shard bounds

-- the bound over all shards: numbers of rows add up, and of the others it is the bound of the shards as if they were rows.
-- The bound of an average is `combined_average`, and the line for Avg here is never asked for
abbrev pub combined : ItemKind → List Bound → Bound
combined Count bounds = record { null = Never; lo = total (map (λ b. b.lo) bounds); hi = total (map (λ b. b.hi) bounds) }
combined Sum bounds = bound_of Sum (pairs_of_shards bounds)
combined Min bounds = bound_of Min (pairs_of_shards bounds)
combined Max bounds = bound_of Max (pairs_of_shards bounds)
combined Avg bounds = bound_of Avg (pairs_of_shards bounds)

-- both ends are numbers of 128 bits
pub record FitsBound (bound : Bound) : Type 0 where
  pub lo : FitsSigned w128 bound.lo
  pub hi : FitsSigned w128 bound.hi

-- ---- what a report gives for a shard

-- the ends are in order, and 0 where there is no answer; a number of rows is never NULL
pub record IsBoundOf (kind : ItemKind) (bound : Bound) : Type 0 where
  pub ends : bound.null ≢ Always → bound.lo ≤ℤ bound.hi
  pub none : bound.null ≡ Always → (bound.lo ≡ pos 0) × (bound.hi ≡ pos 0)
  pub count : kind ≡ Count → bound.null ≡ Never

abbrev pub AreBoundsOf : ItemKind → List Bound → Type 0
AreBoundsOf kind [] = Unit {0}
AreBoundsOf kind (bound ∷ bounds) = IsBoundOf kind bound × AreBoundsOf kind bounds

-- ---- the order of shards

-- the same things in another order: neighbours change places, here or farther on, once or many times
pub data Reordered {X : Type 0} : List X → List X → Type 0 where
  same : (xs : List X) → Reordered xs xs
  swapped : (x y : X) (xs : List X) → Reordered (x ∷ y ∷ xs) (y ∷ x ∷ xs)
  farther : (x : X) (xs ys : List X) → Reordered xs ys → Reordered (x ∷ xs) (x ∷ ys)
  both : (xs ys zs : List X) → Reordered xs ys → Reordered ys zs → Reordered xs zs
