-- Marks at the start of a text, one after the other.
use Rattle.std.proofs.Common.{◌≡◌, ℕ, true, false, List, [], ◌∷◌, ◌-◌, drop, take, length, length-drop, refl, ◌∙◌, arith}
use Rattle.std.proofs.lemmas.List.{take_all}
use Rattle.csv_load.specs.Records.{starts_with_mark, without_marks}

pub mark_dropped : (xs : List ℕ) → starts_with_mark xs ≡ true → without_marks (drop 3 xs) ≡ without_marks xs
unfolding without_marks
mark_dropped [] h = absurd cc
mark_dropped (a ∷ []) h = absurd cc
mark_dropped (a ∷ b ∷ []) h = absurd cc
mark_dropped (a ∷ b ∷ c ∷ rest) h = rw h refl

pub mark_passed : (xs ys : List ℕ) → starts_with_mark xs ≡ true → without_marks xs ≡ without_marks ys → without_marks (take (length xs - 3) (drop 3 xs)) ≡ without_marks ys
mark_passed xs ys h e = rw (take_all (length xs - 3) (drop 3 xs) (omega (arith, length-drop 3 xs))) (mark_dropped xs h ∙ e)

pub no_mark : (xs : List ℕ) → starts_with_mark xs ≡ false → without_marks xs ≡ xs
unfolding without_marks
no_mark [] h = refl
no_mark (a ∷ []) h = refl
no_mark (a ∷ b ∷ []) h = refl
no_mark (a ∷ b ∷ c ∷ rest) h = rw h refl
