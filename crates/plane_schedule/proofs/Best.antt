-- The widest of some columns.
use Rattle.std.proofs.Common.{◌≡◌, ◌≢◌, ◌⊎◌, ℕ, zero, suc, ◌<◌, ◌≤◌, subst, arith, inl, inr}
use Rattle.std.proofs.lemmas.Bool.{cases_lt, cases_eq}

-- the widest below a number: greatest, and of equals the least
pub record WidestBelow (unread : ℕ → ℕ) (n c : ℕ) : Type 0 where
  pub below : c < n
  pub some : 0 < unread c
  pub widest : (d : ℕ) → d < n → unread d ≤ unread c
  pub first : (d : ℕ) → d < c → unread d < unread c

-- no column below the number has an unread plane
abbrev pub NoneBelow : (ℕ → ℕ) → ℕ → Type 0
NoneBelow unread n = (d : ℕ) → d < n → unread d ≡ 0

pub last_or_below : (P : ℕ → Type 0) (n d : ℕ) → d < suc n → P n → ((e : ℕ) → e < n → P e) → P d
last_or_below P n d h here before = by (cases_lt d n)
  where
    by : ((d < n) ⊎ (n ≤ d)) → P d
    by (inl less) = before d less
    by (inr not_less) = let same : n ≡ d = omega arith in subst P same here

-- there is one, unless nothing is unread
pub widest_below : (unread : ℕ → ℕ) (n : ℕ) → NoneBelow unread n ⊎ ((c : ℕ) × WidestBelow unread n c)
widest_below unread zero = inl (λ d h. absurd (omega arith))
widest_below unread (suc n) = by (widest_below unread n)
  where
    fresh : NoneBelow unread n → ((unread n ≡ 0) ⊎ (unread n ≢ 0)) → NoneBelow unread (suc n) ⊎ ((c : ℕ) × WidestBelow unread (suc n) c)
    fresh none (inl zero_here) = inl (λ d h. last_or_below (λ k. unread k ≡ 0) n d h zero_here none)
    fresh none (inr some) = inr (
      n,
      record {
        below = omega arith;
        some = omega arith;
        widest = λ d h. last_or_below (λ k. unread k ≤ unread n) n d h (omega arith) (λ e k. let z = none e k in omega (arith, z));
        first = λ d h. (let z = none d h in omega (arith, z, some));
      },
    )

    better : (c : ℕ) → WidestBelow unread n c → ((unread c < unread n) ⊎ (unread n ≤ unread c)) → NoneBelow unread (suc n) ⊎ ((c : ℕ) × WidestBelow unread (suc n) c)
    better c w (inl more) = inr (
      n,
      record {
        below = omega arith;
        some = omega (arith, more);
        widest = λ d h. last_or_below (λ k. unread k ≤ unread n) n d h (omega arith) (λ e k. let l = w.widest e k in omega (arith, l, more));
        first = λ d h. (let l = w.widest d h in omega (arith, l, more));
      },
    )
    better c w (inr less) = inr (
      c,
      record {
        below = (let b = w.below in omega (arith, b));
        some = w.some;
        widest = λ d h. last_or_below (λ k. unread k ≤ unread c) n d h less w.widest;
        first = w.first;
      },
    )

    by : (NoneBelow unread n ⊎ ((c : ℕ) × WidestBelow unread n c)) → NoneBelow unread (suc n) ⊎ ((c : ℕ) × WidestBelow unread (suc n) c)
    by (inl none) = fresh none (cases_eq (unread n) 0)
    by (inr (c, w)) = better c w (cases_lt (unread c) (unread n))
