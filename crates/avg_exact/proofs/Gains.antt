-- By how much the rows that a test counts exceed a fraction, and the choice that exceeds it most: that of the rows above it.
use Rattle.std.proofs.Common.{◌≡◌, ℕ, ◌<◌, ◌≤◌, ℤ, pos, ◌*ℤ◌, ◌+ℤ◌, ◌-ℤ◌, ◌≤ℤ◌, ◌<ℤ◌, int_lt, Bool, true, false, cond, not, ◌&&◌, ◌||◌, List, [], ◌∷◌, length, ◌⊎◌, inl, inr, refl, arith, filter, IsTrue, IsFalse, Option, Some, None, subst, ap, ◌∙◌}
use Rattle.std.proofs.lemmas.Bool.{cond_both, cases_Bool, false≢true, true≢false}
use Rattle.std.proofs.lemmas.Int.{ints}
use Rattle.query_model.specs.Answers.{total}
use Rattle.query_model.specs.Bounds.{Pair, highs}
use Rattle.query_model.specs.Laws.{AreOutcomes, present}
use Rattle.query_model.proofs.Integers.{times_pos}
use Rattle.avg_exact.proofs.Fractions.{plus_times, times_suc}

-- the pair stands in the list
abbrev pub HasPair : Pair → List Pair → Type 0
HasPair q [] = ⊥
HasPair q (p ∷ ps) = (q ≡ p) ⊎ HasPair q ps

-- the certain rows, and those of a test
abbrev pub with_certain : (Pair → Bool) → Pair → Bool
with_certain f p = p.certain || f p

-- the uncertain rows above a fraction
abbrev pub is_above : ℤ → ℕ → Pair → Bool
is_above s n p = not p.certain && int_lt s (p.high *ℤ pos n)

abbrev pub excess : ℤ → ℕ → Pair → ℤ
excess s n p = (p.high *ℤ pos n) -ℤ s

abbrev pub gain : ℤ → ℕ → (Pair → Bool) → List Pair → ℤ
gain s n f [] = pos 0
gain s n f (p ∷ ps) = cond (f p) (excess s n p) (pos 0) +ℤ gain s n f ps

pub gain-is : (s : ℤ) (n : ℕ) (f : Pair → Bool) (ps : List Pair) →
    gain s n f ps ≡ (total (highs (filter f ps)) *ℤ pos n) -ℤ (s *ℤ pos (length (filter f ps)))
gain-is s n f [] = omega (arith, ints)
gain-is s n f (p ∷ ps) =
    let rest = gain-is s n f ps in
    elim (cases_Bool (f p)) [
      | inl t ↦ rw t (let sum = plus_times p.high (total (highs (filter f ps))) n in let more = times_suc s (length (filter f ps)) in omega (arith, ints))
      | inr t ↦ rw t (omega (arith, ints))
    ]

-- ---- exchange

most : (c b : Bool) (s x : ℤ) → cond (c || b) (x -ℤ s) (pos 0) ≤ℤ cond (c || (not c && int_lt s x)) (x -ℤ s) (pos 0)
most true b s x = omega (arith, ints)
most false true s x = cond_both (int_lt s x) (x -ℤ s) (pos 0) (λ z. (x -ℤ s) ≤ℤ z) (λ t. omega (arith, ints)) (λ t. omega (arith, ints))
most false false s x = cond_both (int_lt s x) (x -ℤ s) (pos 0) (λ z. pos 0 ≤ℤ z) (λ t. omega (arith, ints)) (λ t. omega (arith, ints))

-- no choice exceeds a fraction by more than that of the rows above it
pub exchange : (s : ℤ) (n : ℕ) (f : Pair → Bool) (ps : List Pair) → gain s n (with_certain f) ps ≤ℤ gain s n (with_certain (is_above s n)) ps
exchange s n f [] = omega (arith, ints)
exchange s n f (p ∷ ps) =
    let here = most p.certain (f p) s (p.high *ℤ pos n) in
    let rest = exchange s n f ps in
    omega (arith, ints)

less : (c b : Bool) (s x : ℤ) → IsTrue (not c && int_lt s x) → IsFalse b → cond (c || b) (x -ℤ s) (pos 0) <ℤ cond (c || (not c && int_lt s x)) (x -ℤ s) (pos 0)
less true b s x a f = absurd (false≢true a)
less false true s x a f = absurd (true≢false f)
less false false s x a f = rw a (omega (arith, ints))

-- and one that leaves out such a row exceeds it by less
pub exchange_strictly : (s : ℤ) (n : ℕ) (f : Pair → Bool) (ps : List Pair) (q : Pair) → HasPair q ps → IsTrue (is_above s n q) → IsFalse (f q) →
    gain s n (with_certain f) ps <ℤ gain s n (with_certain (is_above s n)) ps
exchange_strictly s n f [] q h a g = absurd h
exchange_strictly s n f (p ∷ ps) q (inl e) a g =
    let here = less p.certain (f p) s (p.high *ℤ pos n) (subst (λ r. IsTrue (is_above s n r)) e a) (subst (λ r. IsFalse (f r)) e g) in
    let rest = exchange s n f ps in
    omega (arith, ints)
exchange_strictly s n f (p ∷ ps) q (inr h) a g =
    let here = most p.certain (f p) s (p.high *ℤ pos n) in
    let rest = exchange_strictly s n f ps q h a g in
    omega (arith, ints)

-- ---- outcomes

outcome_most : (c : Bool) (s x v : ℤ) (n : ℕ) → v ≤ℤ x → ((v *ℤ pos n) -ℤ s) ≤ℤ cond (c || (not c && int_lt s (x *ℤ pos n))) ((x *ℤ pos n) -ℤ s) (pos 0)
outcome_most true s x v n h = (let up = times_pos v x n h in omega (arith, ints))
outcome_most false s x v n h =
    let up = times_pos v x n h in
    cond_both (int_lt s (x *ℤ pos n)) ((x *ℤ pos n) -ℤ s) (pos 0) (λ z. ((v *ℤ pos n) -ℤ s) ≤ℤ z) (λ t. omega (arith, ints)) (λ t. omega (arith, ints))

nothing_most : (c : Bool) (s x : ℤ) → IsFalse c → pos 0 ≤ℤ cond (c || (not c && int_lt s x)) (x -ℤ s) (pos 0)
nothing_most true s x f = absurd (true≢false f)
nothing_most false s x f = cond_both (int_lt s x) (x -ℤ s) (pos 0) (λ z. pos 0 ≤ℤ z) (λ t. omega (arith, ints)) (λ t. omega (arith, ints))

-- nor does any choice of outcomes
pub outcomes_gain : (s : ℤ) (n : ℕ) (ps : List Pair) (os : List (Option ℤ)) → AreOutcomes ps os →
    ((total (present os) *ℤ pos n) -ℤ (s *ℤ pos (length (present os)))) ≤ℤ gain s n (with_certain (is_above s n)) ps
outcomes_gain s n [] [] h = omega (arith, ints)
outcomes_gain s n [] (o ∷ os) h = absurd h
outcomes_gain s n (p ∷ ps) [] h = absurd h
outcomes_gain s n (p ∷ ps) (None ∷ os) h =
    let here = nothing_most p.certain s (p.high *ℤ pos n) h.0 in
    let rest = outcomes_gain s n ps os h.1 in
    omega (arith, ints)
outcomes_gain s n (p ∷ ps) (Some v ∷ os) h =
    let here = outcome_most p.certain s p.high v n h.0.1 in
    let rest = outcomes_gain s n ps os h.1 in
    let sum = plus_times v (total (present os)) n in
    let more = times_suc s (length (present os)) in
    omega (arith, ints)

-- ---- parts of a list

-- a test that holds of fewer of the pairs counts fewer
pub subset_counts : (f g : Pair → Bool) (ps : List Pair) → ((q : Pair) → HasPair q ps → IsTrue (f q) → IsTrue (g q)) → length (filter f ps) ≤ length (filter g ps)
subset_counts f g [] h = omega arith
subset_counts f g (p ∷ ps) h =
    let rest = subset_counts f g ps (λ q has. h q (inr has)) in
    elim (cases_Bool (f p)) [
      | inl t ↦ rw (t, h p (inl refl) t) (omega arith)
      | inr t ↦ rw t (cond_both (g p) (p ∷ filter g ps) (filter g ps) (λ qs. length (filter f ps) ≤ length qs) (λ _. omega arith) (λ _. rest))
    ]

pub subset_counts_strictly : (f g : Pair → Bool) (ps : List Pair) (r : Pair) → ((q : Pair) → HasPair q ps → IsTrue (f q) → IsTrue (g q)) →
    HasPair r ps → IsTrue (g r) → IsFalse (f r) → length (filter f ps) < length (filter g ps)
subset_counts_strictly f g [] r h has t w = absurd has
subset_counts_strictly f g (p ∷ ps) r h (inl e) t w =
    let rest = subset_counts f g ps (λ q has. h q (inr has)) in
    let there : IsTrue (g p) = subst (λ q. IsTrue (g q)) e t in
    let missing : IsFalse (f p) = subst (λ q. IsFalse (f q)) e w in
    rw (there, missing) (omega arith)
subset_counts_strictly f g (p ∷ ps) r h (inr has) t w =
    let rest = subset_counts_strictly f g ps r (λ q has. h q (inr has)) has t w in
    elim (cases_Bool (f p)) [
      | inl t' ↦ rw (t', h p (inl refl) t') (omega arith)
      | inr t' ↦ rw t' (cond_both (g p) (p ∷ filter g ps) (filter g ps) (λ qs. length (filter f ps) < length qs) (λ _. omega arith) (λ _. rest))
    ]

-- tests that agree on the pairs count the same ones
pub filter_same : (f g : Pair → Bool) (ps : List Pair) → ((q : Pair) → HasPair q ps → f q ≡ g q) → filter f ps ≡ filter g ps
filter_same f g [] h = refl
filter_same f g (p ∷ ps) h =
    ap (λ b. cond b (p ∷ filter f ps) (filter f ps)) (h p (inl refl)) ∙ ap (λ qs. cond (g p) (p ∷ qs) qs) (filter_same f g ps (λ q has. h q (inr has)))
