-- Whether a bit past the last row is 1.
use Rattle.std.proofs.Common.{◌≡◌, ◌⊎◌, ℕ, zero, suc, ◌+◌, ◌-◌, ◌*◌, ◌^◌, ◌<◌, ◌≤◌, List, length, subst, arith, inl, inr}
use Rattle.std.proofs.lemmas.Bool.{cases_lt}
use Rattle.plane_kernels.specs.Bytes.{HasNoPadBits, HasPadBits, word_in, word_rows}

module _ (rows : ℕ) (bytes : List ℕ) where
  -- one of so many words has one, or none has
  abbrev Judged : ℕ → Type 0
  Judged n = ((word : ℕ) × HasPadBits rows 0 bytes word) ⊎ ((word : ℕ) → word < n → ¬ HasPadBits rows 0 bytes word)

  none_more : (n : ℕ) → (¬ HasPadBits rows 0 bytes n) → ((word : ℕ) → word < n → ¬ HasPadBits rows 0 bytes word) → (word : ℕ) → word < suc n → ¬ HasPadBits rows 0 bytes word
  none_more n none before word lt pad = elim (cases_lt word n) [
    | inl less ↦ before word less pad
    | inr past ↦ (let same : word ≡ n = omega (arith, past, lt) in none (subst (HasPadBits rows 0 bytes) same pad))
  ]

  judged_below : (n : ℕ) → Judged n
  judged_below zero = inr (λ word lt _. omega (arith, lt))
  judged_below (suc n) = by (judged_below n) (cases_lt (length bytes) (8 * (n - 0) + 8)) (cases_lt (word_in bytes (n - 0)) (2 ^ word_rows rows n))
    where
      by : Judged n → ((length bytes < 8 * (n - 0) + 8) ⊎ (8 * (n - 0) + 8 ≤ length bytes)) →
          ((word_in bytes (n - 0) < 2 ^ word_rows rows n) ⊎ (2 ^ word_rows rows n ≤ word_in bytes (n - 0))) → Judged (suc n)
      by (inl found) room past = inl found
      by (inr before) (inl short) past = inr (none_more n (λ pad. let within = pad.within in omega (arith, short, within)) before)
      by (inr before) (inr room) (inl low) = inr (none_more n (λ pad. let past = pad.past in omega (arith, low, past)) before)
      by (inr before) (inr room) (inr past) = inl (n, record { from = omega arith; within = room; past = past })

  -- a word past the bytes has none
  pub padded_or_not : HasNoPadBits rows 0 bytes ⊎ (¬ HasNoPadBits rows 0 bytes)
  padded_or_not = elim (judged_below (length bytes)) [
    | inl found ↦ inr (λ none. none found.0 found.1)
    | inr none ↦ inl (λ word pad. let within = pad.within in none word (omega (arith, within)) pad)
  ]
