-- The best of some choices.
use Rattle.std.proofs.Common.{◌≡◌, ℕ, ◌<◌, ◌≤◌, ℤ, pos, ◌*ℤ◌, ◌≤ℤ◌, ◌<ℤ◌, int_lt, true, false, not, ◌&&◌, ◌||◌, List, [], ◌∷◌, ◌⊎◌, inl, inr, refl, arith, IsTrue, IsFalse, subst, sym}
use Rattle.std.specs.Prelude.{nat_lt}
use Rattle.std.proofs.lemmas.Bool.{cond_both, cases_Bool, ltb-true, ltb-false}
use Rattle.std.proofs.lemmas.Int.{ints}
use Rattle.avg_exact.specs.ExactAverages.{Choice, best_of, better_of, is_less}
use Rattle.avg_exact.proofs.Fractions.{at_most_trans, less_at_most_trans, at_most_less_trans}

-- the first is at least as good as the second: its average is greater, or the same with no more rows taken
abbrev pub Beats : Choice → Choice → Type 0
Beats a b = ((b.sum *ℤ pos a.rows) <ℤ (a.sum *ℤ pos b.rows)) ⊎ ((b.sum *ℤ pos a.rows ≡ a.sum *ℤ pos b.rows) × (a.taken ≤ b.taken))

-- and better
abbrev pub BeatsStrictly : Choice → Choice → Type 0
BeatsStrictly a b = ((b.sum *ℤ pos a.rows) <ℤ (a.sum *ℤ pos b.rows)) ⊎ ((b.sum *ℤ pos a.rows ≡ a.sum *ℤ pos b.rows) × (a.taken < b.taken))

pub at_most_beaten : (a b : Choice) → Beats a b → (b.sum *ℤ pos a.rows) ≤ℤ (a.sum *ℤ pos b.rows)
at_most_beaten a b (inl l) = omega (arith, ints)
at_most_beaten a b (inr (e, t)) = omega (arith, ints)

beats_itself : (a : Choice) → Beats a a
beats_itself a = inr (refl, omega arith)

-- over plain numbers: the cross products of two choices, and the numbers of rows that they take
second_wins : (l r : ℤ) (i j : ℕ) → IsTrue (int_lt l r || (not (int_lt r l) && nat_lt j i)) → (l <ℤ r) ⊎ ((l ≡ r) × (j ≤ i))
second_wins l r i j t = elim (cases_Bool (int_lt l r)) [
  | inl b ↦ inl (omega (arith, ints))
  | inr b ↦ (let t' : IsTrue (not (int_lt r l) && nat_lt j i) = rw b at t in
      elim (cases_Bool (int_lt r l)) [
        | inl c ↦ (let no : false ≡ true = rw c at t' in absurd (cc no))
        | inr c ↦ (let less : IsTrue (nat_lt j i) = rw c at t' in inr (omega (arith, ints), omega (arith, ltb-true j i less)))
      ])
]

first_wins : (l r : ℤ) (i j : ℕ) → IsFalse (int_lt l r || (not (int_lt r l) && nat_lt j i)) → (r <ℤ l) ⊎ ((r ≡ l) × (i ≤ j))
first_wins l r i j f = elim (cases_Bool (int_lt l r)) [
  | inl b ↦ (let no : true ≡ false = rw b at f in absurd (cc no))
  | inr b ↦ (let f' : IsFalse (not (int_lt r l) && nat_lt j i) = rw b at f in
      elim (cases_Bool (int_lt r l)) [
        | inl c ↦ inl (omega (arith, ints))
        | inr c ↦ (let more : IsFalse (nat_lt j i) = rw c at f' in inr (omega (arith, ints), omega (arith, ltb-false j i more)))
      ])
]

better_beats : (a b : Choice) → Beats (better_of a b) a × Beats (better_of a b) b
better_beats a b =
    cond_both (is_less a b || (not (is_less b a) && nat_lt b.taken a.taken)) b a (λ c. Beats c a × Beats c b)
    (λ t. (second_wins (a.sum *ℤ pos b.rows) (b.sum *ℤ pos a.rows) a.taken b.taken t, beats_itself b))
    (λ f. (beats_itself a, first_wins (a.sum *ℤ pos b.rows) (b.sum *ℤ pos a.rows) a.taken b.taken f))

beats_trans : (a b c : Choice) → 1 ≤ a.rows → 1 ≤ b.rows → 1 ≤ c.rows → Beats a b → Beats b c → Beats a c
beats_trans a b c one two three (inl h) (inl g) = inl (at_most_less_trans c.sum b.sum a.sum c.rows b.rows a.rows three (omega (arith, ints)) h)
beats_trans a b c one two three (inl h) (inr (e, t)) = inl (at_most_less_trans c.sum b.sum a.sum c.rows b.rows a.rows three (omega (arith, ints)) h)
beats_trans a b c one two three (inr (e, t)) (inl g) = inl (less_at_most_trans c.sum b.sum a.sum c.rows b.rows a.rows one g (omega (arith, ints)))
beats_trans a b c one two three (inr (e, t)) (inr (e', t')) =
    let up = at_most_trans c.sum b.sum a.sum c.rows b.rows a.rows two (omega (arith, ints)) (omega (arith, ints)) in
    let down = at_most_trans a.sum b.sum c.sum a.rows b.rows c.rows two (omega (arith, ints)) (omega (arith, ints)) in
    inr (omega (arith, ints), omega arith)

-- ---- lists of choices

abbrev pub HasChoice : Choice → List Choice → Type 0
HasChoice c [] = ⊥
HasChoice c (d ∷ ds) = (c ≡ d) ⊎ HasChoice c ds

-- each counts a row
abbrev pub AreAllowed : List Choice → Type 0
AreAllowed cs = (d : Choice) → HasChoice d cs → 1 ≤ d.rows

pub best_stands : (c : Choice) (cs : List Choice) → HasChoice (best_of (c ∷ cs)) (c ∷ cs)
best_stands c [] = inl refl
best_stands c (d ∷ ds) =
    cond_both (is_less c (best_of (d ∷ ds)) || (not (is_less (best_of (d ∷ ds)) c) && nat_lt (best_of (d ∷ ds)).taken c.taken)) (best_of (d ∷ ds)) c
    (λ b. HasChoice b (c ∷ d ∷ ds)) (λ _. inr (best_stands d ds)) (λ _. inl refl)

pub best_beats : (c : Choice) (cs : List Choice) → AreAllowed (c ∷ cs) → (d : Choice) → HasChoice d (c ∷ cs) → Beats (best_of (c ∷ cs)) d
best_beats c [] some d (inl e) = subst (Beats c) (sym e) (beats_itself c)
best_beats c [] some d (inr h) = absurd h
best_beats c (e ∷ es) some d (inl i) = subst (Beats (best_of (c ∷ e ∷ es))) (sym i) (better_beats c (best_of (e ∷ es))).0
best_beats c (e ∷ es) some d (inr h) =
    let rest = best_of (e ∷ es) in
    let all = best_of (c ∷ e ∷ es) in
    beats_trans all rest d (some all (best_stands c (e ∷ es))) (some rest (inr (best_stands e es))) (some d (inr h))
    (better_beats c rest).1 (best_beats e es (λ x has. some x (inr has)) d h)

not_both : (a b : Choice) → Beats a b → BeatsStrictly b a → ⊥
not_both a b (inl h) (inl g) = omega (arith, ints)
not_both a b (inl h) (inr (e, t)) = omega (arith, ints)
not_both a b (inr (e, t)) (inl g) = omega (arith, ints)
not_both a b (inr (e, t)) (inr (e', t')) = omega arith

-- a choice that beats all others is the best
pub best_is : (cs : List Choice) (b : Choice) → AreAllowed cs → HasChoice b cs → ((d : Choice) → HasChoice d cs → (d ≡ b) ⊎ BeatsStrictly b d) → best_of cs ≡ b
best_is [] b some has wins = absurd has
best_is (c ∷ cs) b some has wins = elim (wins (best_of (c ∷ cs)) (best_stands c cs)) [
  | inl e ↦ e
  | inr s ↦ absurd (not_both (best_of (c ∷ cs)) b (best_beats c cs some b has) s)
]
