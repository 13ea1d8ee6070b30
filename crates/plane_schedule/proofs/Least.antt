-- The least of some columns.
use Rattle.std.proofs.Common.{◌⊎◌, ℕ, zero, suc, ◌<◌, ◌≤◌, arith, inl, inr}
use Rattle.std.proofs.lemmas.Bool.{cases_lt}
use Rattle.plane_schedule.proofs.Best.{last_or_below}
use Rattle.plane_schedule.proofs.Deciding.{Decides}

-- of the numbers below a limit that pass a test, the first of the least; or none passes
pub record LeastBelow (P : ℕ → Type 0) (taken : ℕ → ℕ) (n c : ℕ) : Type 0 where
  pub here : P c
  pub least : (d : ℕ) → d < n → P d → taken c ≤ taken d
  pub first : (d : ℕ) → d < c → P d → taken c < taken d
  pub below : c < n

pub least_below : (P : ℕ → Type 0) (taken : ℕ → ℕ) → ((c : ℕ) → Decides (P c)) → (n : ℕ) → ((c : ℕ) × LeastBelow P taken n c) ⊎ ((d : ℕ) → d < n → ¬ P d)
least_below P taken test zero = inr (λ d h. absurd (omega arith))
least_below P taken test (suc n) = by (least_below P taken test n) (test n)
  where
    below_or : (Q : ℕ → Type 0) → ((d : ℕ) → d < n → Q d) → Q n → (d : ℕ) → d < suc n → Q d
    below_or Q before here d h = last_or_below Q n d h here before

    compare : (c : ℕ) → LeastBelow P taken n c → P n → ((taken n < taken c) ⊎ (taken c ≤ taken n)) → (c : ℕ) × LeastBelow P taken (suc n) c
    compare c l here (inl fewer) = (
      n,
      record {
        here = here;
        least = below_or (λ d. P d → taken n ≤ taken d) (λ d h p. let k = l.least d h p in omega (arith, k, fewer)) (λ p. omega arith);
        first = λ d h p. (let k = l.least d h p in omega (arith, k, fewer));
        below = omega arith;
      },
    )
    compare c l here (inr k) = (
      c,
      record {
        here = l.here;
        least = below_or (λ d. P d → taken c ≤ taken d) l.least (λ p. k);
        first = l.first;
        below = (let b = l.below in omega (arith, b));
      },
    )

    by : ((c : ℕ) × LeastBelow P taken n c) ⊎ ((d : ℕ) → d < n → ¬ P d) → Decides (P n) → ((c : ℕ) × LeastBelow P taken (suc n) c) ⊎ ((d : ℕ) → d < suc n → ¬ P d)
    by (inl (c, l)) (inl here) = inl (compare c l here (cases_lt (taken n) (taken c)))
    by (inl (c, l)) (inr never) = inl (
      c,
      record {
        here = l.here;
        least = below_or (λ d. P d → taken c ≤ taken d) l.least (λ p. absurd (never p));
        first = l.first;
        below = (let b = l.below in omega (arith, b));
      },
    )
    by (inr none) (inl here) = inl (
      n,
      record {
        here = here;
        least = below_or (λ d. P d → taken n ≤ taken d) (λ d h p. absurd (none d h p)) (λ p. omega arith);
        first = λ d h p. absurd (none d h p);
        below = omega arith;
      },
    )
    by (inr none) (inr never) = inr (below_or (λ d. ¬ P d) none never)
