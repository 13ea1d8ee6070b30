-- The first of some that is not so.
use Rattle.std.specs.Prelude.{◌⊎◌, ℕ, zero, suc, List, [], ◌∷◌}
use Rattle.std.specs.List.{All}

-- it is at that place, counted from 0
abbrev pub IsFirstNot : {X : Type 0} → (X → Type 0) → List X → ℕ → Type 0
IsFirstNot P [] place = ⊥
IsFirstNot P (x ∷ xs) zero = ¬ P x
IsFirstNot P (x ∷ xs) (suc place) = P x × IsFirstNot P xs place

-- it is at that place in the first of these lists that has one
abbrev pub IsFirstNotIn : {X : Type 0} → (X → Type 0) → List (List X) → ℕ → Type 0
IsFirstNotIn P [] place = ⊥
IsFirstNotIn P (xs ∷ lists) place = IsFirstNot P xs place ⊎ (All P xs × IsFirstNotIn P lists place)
