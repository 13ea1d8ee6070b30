-- Masks of cells, one after the other.
use Rattle.std.proofs.Common.{◌≡◌, ℕ, zero, suc, ◌<◌, ◌≤◌, ◌==◌, Bool, List, [], ◌∷◌, ◌++◌, length, length-set, length-append, map, replicate, set, get_or, inl, inr, sym, ap, ◌∙◌, refl, arith}
use Rattle.std.proofs.Math.ListN.{get_or-append}
use Rattle.std.proofs.Math.Seq.{get_or-append_seam}
use Rattle.std.proofs.lemmas.Bool.{cases_eq}
use Rattle.std.proofs.lemmas.List.{get_or-set_other, get_or-set_same, length-replicate}
use Rattle.row_groups.specs.Keeping.{AreFirst, HaveCells, HaveRows}

-- ---- one mask more is written

pub rows_set : (rows : ℕ) (masks : List (List Bool)) (n : ℕ) (mask : List Bool) → n < length masks → length mask ≡ rows → HaveRows rows masks → HaveRows rows (set masks n mask)
rows_set rows masks n mask within long all = λ k below. elim (cases_eq k n) [
  | inl here ↦ ap (λ j. length (get_or (set masks n mask) j [])) here ∙ ap length (get_or-set_same masks n mask [] within) ∙ long
  | inr other ↦ ap length (get_or-set_other masks n k mask [] other) ∙ all k (let count = length-set masks n mask in omega (arith, below, count))
]

-- ---- one mask more at the start

pub first_more : (rows : ℕ) (masks : List (List Bool)) (mask : List Bool) → mask ≡ replicate rows (length masks == 0) → AreFirst rows masks → AreFirst rows (masks ++ mask ∷ [])
first_more rows masks mask is all = λ k below. elim (cases_eq k (length masks)) [
  | inl here ↦ ap (λ j. get_or (masks ++ mask ∷ []) j []) here ∙ get_or-append_seam masks mask [] [] ∙ is ∙ ap (λ j. replicate rows (j == 0)) (sym here)
  | inr other ↦ (
      let count = length-append masks (mask ∷ []) in
      let within : k < length masks = omega (arith, below, other, count) in
      get_or-append masks (mask ∷ []) [] k within ∙ all k within
      )
]

pub first_rows : (rows : ℕ) (masks : List (List Bool)) → AreFirst rows masks → HaveRows rows masks
first_rows rows masks all = λ k below. ap length (all k below) ∙ length-replicate rows (k == 0)

zeros_are : (rows cell : ℕ) → replicate rows (0 == cell) ≡ map (λ c. c == cell) (replicate rows 0)
zeros_are zero cell = refl
zeros_are (suc rows) cell = ap (λ bs. (0 == cell) ∷ bs) (zeros_are rows cell)

pub first_cells : (rows : ℕ) (masks : List (List Bool)) → 1 ≤ length masks → AreFirst rows masks → HaveCells 1 (replicate rows 0) masks
first_cells rows masks some all = λ k below.
    let first : k ≡ 0 = omega (arith, below) in
    ap (λ j. get_or masks j []) first ∙ all 0 (omega (arith, some)) ∙ zeros_are rows 0 ∙ ap (λ j. map (λ c. c == j) (replicate rows 0)) (sym first)
