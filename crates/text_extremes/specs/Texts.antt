-- Texts in the order of their bytes, and the least or the greatest of some.
use Rattle.std.specs.Prelude.{ℕ, Bool, List, [], ◌∷◌, if◌then◌else◌}
use Rattle.std.specs.Cmp.Lexicographic.{slice_cmp}
use Rattle.std.specs.Ordering.{is_le, nat_cmp}
use Rattle.std.specs.declared.option.Option.{Option}
use Rattle.std.specs.declared.option.Option.TheVariants.{Some, None}
use Rattle.text_extremes.specs.declared.extreme.Extreme.{Extreme}
use Rattle.text_extremes.specs.declared.extreme.Extreme.TheVariants.{Least, Greatest}

abbrev pub text_le : List ℕ → List ℕ → Bool
text_le s t = is_le (slice_cmp nat_cmp s t)

-- a text comes first where it is the one that is asked for of the two, or equal to it
abbrev pub comes_first : Extreme → List ℕ → List ℕ → Bool
comes_first Least s t = text_le s t
comes_first Greatest s t = text_le t s

abbrev pub first_of : Extreme → List ℕ → List ℕ → List ℕ
first_of extreme s t = if comes_first extreme s t then s else t

abbrev pub last_of : Extreme → List ℕ → List ℕ → List ℕ
last_of extreme s t = if comes_first extreme s t then t else s

-- both in one; where one is none, the other
abbrev pub of_both : {A : Type 0} → (A → A → A) → Option A → Option A → Option A
of_both join None b = b
of_both join (Some a) None = Some a
of_both join (Some a) (Some b) = Some (join a b)

abbrev pub of_all : {A : Type 0} → (A → A → A) → List (Option A) → Option A
of_all join [] = None
of_all join (a ∷ others) = of_both join a (of_all join others)

-- the least or the greatest of some texts, and none of none
abbrev pub extreme_of : Extreme → List (List ℕ) → Option (List ℕ)
extreme_of extreme [] = None
extreme_of extreme (t ∷ ts) = of_both (first_of extreme) (Some t) (extreme_of extreme ts)
