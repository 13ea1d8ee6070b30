-- Facts that hold or do not: pairs, alternatives and implications of these, comparisons, and what holds of all numbers below a limit.
use Rattle.std.proofs.Common.{◌⊎◌, ℕ, zero, suc, ◌<◌, ◌≤◌, arith, inl, inr}
use Rattle.std.proofs.lemmas.Bool.{cases_lt}
use Rattle.plane_schedule.proofs.Best.{last_or_below}

abbrev pub Decides : Type 0 → Type 0
Decides P = P ⊎ (¬ P)

pub decides_either : (A B : Type 0) → Decides A → Decides B → Decides (A ⊎ B)
decides_either A B (inl a) b = inl (inl a)
decides_either A B (inr never) (inl b) = inl (inr b)
decides_either A B (inr never) (inr none) = inr by
  where
    by : ¬ (A ⊎ B)
    by (inl a) = never a
    by (inr b) = none b

pub decides_both : (A B : Type 0) → Decides A → Decides B → Decides (A × B)
decides_both A B (inl a) (inl b) = inl (a, b)
decides_both A B (inl a) (inr none) = inr (λ both. none both.1)
decides_both A B (inr never) b = inr (λ both. never both.0)

pub decides_not : (A : Type 0) → Decides A → Decides (¬ A)
decides_not A (inl a) = inr (λ never. never a)
decides_not A (inr never) = inl never

pub decides_if : (A B : Type 0) → Decides A → Decides B → Decides (A → B)
decides_if A B (inr never) b = inl (λ a. absurd (never a))
decides_if A B (inl a) (inl b) = inl (λ _. b)
decides_if A B (inl a) (inr none) = inr (λ all. none (all a))

pub decides_at_most : (a b : ℕ) → Decides (a ≤ b)
decides_at_most a b = by (cases_lt b a)
  where
    by : (b < a) ⊎ (a ≤ b) → Decides (a ≤ b)
    by (inl less) = inr (λ k. omega (arith, less, k))
    by (inr k) = inl k

-- a test passes at all numbers below a limit, or not at all of them
pub decides_all : (P : ℕ → Type 0) → ((c : ℕ) → Decides (P c)) → (n : ℕ) → Decides ((c : ℕ) → c < n → P c)
decides_all P test zero = inl (λ c h. absurd (omega arith))
decides_all P test (suc n) = by (decides_all P test n) (test n)
  where
    by : Decides ((c : ℕ) → c < n → P c) → Decides (P n) → Decides ((c : ℕ) → c < suc n → P c)
    by (inr not_before) here = inr (λ all. not_before (λ c h. all c (omega (arith, h))))
    by (inl before) (inr not_here) = inr (λ all. not_here (all n (omega arith)))
    by (inl before) (inl here) = inl (λ c h. last_or_below P n c h here before)
