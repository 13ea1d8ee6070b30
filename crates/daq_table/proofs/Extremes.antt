-- The least and the greatest of a column's numbers: every number lies between them, and the distances from the least stand for the numbers.
use Rattle.std.proofs.Common.{◌≡◌, ℕ, ◌≤◌, ℤ, pos, ◌+ℤ◌, ◌-ℤ◌, ◌≤ℤ◌, unsigned_abs, All, Option, Some, List, [], ◌∷◌, map, refl, sym, ap, subst, inl, inr, ◌∙◌, arith}
use Rattle.std.proofs.lemmas.Int.{fold-int_max_bounds, fold-int_max_reached, fold-int_min_bounds, fold-int_min_reached, ints}
use Rattle.std.proofs.lemmas.List.Elements.{All-cons, All-tail}
use Rattle.daq_table.specs.Extremes.{greatest, least}
use Rattle.daq_table.specs.Raised.{lowered}
use Rattle.daq_table.specs.Tables.{Cell, column_from}

pub least_below : (zs : List ℤ) → All (λ z. least zs ≤ℤ z) zs
least_below [] = λ k d lt. absurd (omega (arith, lt))
least_below (z ∷ zs) = let b = fold-int_min_bounds z zs (least (z ∷ zs)) refl in All-cons (λ x. least (z ∷ zs) ≤ℤ x) z zs b.0 b.1

pub greatest_above : (zs : List ℤ) → All (λ z. z ≤ℤ greatest zs) zs
greatest_above [] = λ k d lt. absurd (omega (arith, lt))
greatest_above (z ∷ zs) = let b = fold-int_max_bounds z zs (greatest (z ∷ zs)) refl in All-cons (λ x. x ≤ℤ greatest (z ∷ zs)) z zs b.0 b.1

between : (a z b : ℤ) → a ≤ℤ z → z ≤ℤ b → a ≤ℤ b
between a z b h k = omega (arith, ints, h, k)

pub ends_ordered : (zs : List ℤ) → least zs ≤ℤ greatest zs
ends_ordered [] = omega (arith, ints)
ends_ordered (z ∷ zs) = between (least (z ∷ zs)) z (greatest (z ∷ zs)) (fold-int_min_bounds z zs (least (z ∷ zs)) refl).0 (fold-int_max_bounds z zs (greatest (z ∷ zs)) refl).0

pub least_has : (P : ℤ → Type 0) (zs : List ℤ) → P (pos 0) → All P zs → P (least zs)
least_has P [] h all = h
least_has P (z ∷ zs) h all =
    elim (fold-int_min_reached z zs (least (z ∷ zs)) refl) [
      | inl first ↦ subst P (sym first) (all 0 z (omega arith))
      | inr later ↦ subst P later.2 (All-tail P z zs all later.0 (least (z ∷ zs)) later.1)
    ]

pub greatest_has : (P : ℤ → Type 0) (zs : List ℤ) → P (pos 0) → All P zs → P (greatest zs)
greatest_has P [] h all = h
greatest_has P (z ∷ zs) h all =
    elim (fold-int_max_reached z zs (greatest (z ∷ zs)) refl) [
      | inl first ↦ subst P (sym first) (all 0 z (omega arith))
      | inr later ↦ subst P later.2 (All-tail P z zs all later.0 (greatest (z ∷ zs)) later.1)
    ]

pub above_base : (base z : ℤ) → base ≤ℤ z → base +ℤ pos (unsigned_abs (z -ℤ base)) ≡ z
above_base base z h = omega (arith, ints, h)

pub cells_stand : (base : ℤ) (zs : List ℤ) → All (λ z. base ≤ℤ z) zs → map (λ (u : ℕ). base +ℤ pos u) (map (λ (z : ℤ). unsigned_abs (z -ℤ base)) zs) ≡ zs
cells_stand base [] h = refl
cells_stand base (z ∷ zs) h = rw (above_base base z (h 0 z (omega arith)), cells_stand base zs (All-tail (λ (x : ℤ). base ≤ℤ x) z zs h)) refl

pub cells_of : (zs numbers : List ℤ) (base : ℤ) (cells : List ℕ) → base ≡ least zs → numbers ≡ zs → cells ≡ map (λ (z : ℤ). unsigned_abs (z -ℤ base)) numbers → map (λ (u : ℕ). base +ℤ pos u) cells ≡ zs
cells_of zs numbers base cells b n c =
    let are : cells ≡ map (λ (z : ℤ). unsigned_abs (z -ℤ least zs)) zs = c ∙ ap (λ (x : ℤ). map (λ (z : ℤ). unsigned_abs (z -ℤ x)) numbers) b ∙ ap (map (λ (z : ℤ). unsigned_abs (z -ℤ least zs))) n in
    ap (map (λ (u : ℕ). base +ℤ pos u)) are ∙ ap (λ (x : ℤ). map (λ (u : ℕ). x +ℤ pos u) (map (λ (z : ℤ). unsigned_abs (z -ℤ least zs)) zs)) b ∙ cells_stand (least zs) zs (least_below zs)

-- the same of numbers that are raised
pub distances_are : (base : ℤ) (numbers : List ℕ) → map (λ n. unsigned_abs (lowered n -ℤ base)) numbers ≡ map (λ (z : ℤ). unsigned_abs (z -ℤ base)) (map lowered numbers)
distances_are base [] = refl
distances_are base (n ∷ numbers) = ap (λ us. unsigned_abs (lowered n -ℤ base) ∷ us) (distances_are base numbers)

-- what cells without a mark stand for
pub plain_values : (base : ℤ) (value : Cell → Option ℤ) (us : List ℕ) → ((u : ℕ) → value (Some u) ≡ Some (base +ℤ pos u))
    → map value (column_from us []) ≡ map Some (map (λ (u : ℕ). base +ℤ pos u) us)
plain_values base value [] h = refl
plain_values base value (u ∷ us) h = rw (h u, plain_values base value us h) refl

-- a number up to the top lies no further from the base than the top
pub within_top : (base top : ℤ) (u : ℕ) → (base +ℤ pos u) ≤ℤ top → u ≤ unsigned_abs (top -ℤ base)
within_top base top u h = omega (arith, ints, h)
