-- The numbers of a prefix by the first digits of a number.
use Rattle.std.proofs.Common.{◌≡◌, ◌≢◌, ℕ, zero, suc, ◌+◌, ◌-◌, ◌*◌, ◌/◌, ◌^◌, ◌<◌, ◌≤◌, ◌==◌, min, ℤ, pos, ◌+ℤ◌, Bool, true, false, cond, not, ◌&&◌, ◌⊎◌, inl, inr, refl, arith, subst, sym, ap, ◌∙◌, IsTrue, IsFalse, Some}
use Rattle.std.proofs.lemmas.Bool.{cases_Bool, cond-true, cond-false, and_from, and_left, and_right, eqb-true, eq-eqb, false≢true, true≢false}
use Rattle.std.proofs.lemmas.Int.{ints}
use Rattle.std.proofs.lemmas.Nat.{pow-add, div-mul-add}
use Rattle.std.proofs.Math.Nat.{pow-succ'}
use Rattle.interval_calc.specs.Intervals.{Interval, only}
use Rattle.daq_table.specs.declared.head.Ends.{Ends}
use Rattle.daq_table.specs.Tables.{code, first_code, planes, spread, width}
use Rattle.query_model.specs.declared.bounds.Nullity.{Nullity}
use Rattle.query_model.specs.declared.bounds.Nullity.TheVariants.{Never, Possibly, Always}
use Rattle.query_model.specs.Knowledge.{block, prefix_of, number_prefix, range_of, IsLegal}
use Rattle.query_model.specs.Laws.{RangesHaveDigits}
use Rattle.query_model.proofs.Blocks.{nullable_column, plain_column, block_small, block_pos, below_digits, legal_cases, none_read, prefixes_are_legal}

-- over plain numbers: f is the first code, p the prefix, q the first digits of a number, b the block
abbrev pub Numbers : ℤ → ℕ → ℕ → ℕ → ℕ → Interval
Numbers base f p b top = record { low = base +ℤ pos (p * b - f); high = base +ℤ pos (min ((p + 1) * b - 1 - f) top) }

same_ends : (low low' high high' : ℤ) → low ≡ low' → high ≡ high' → ◌≡◌ {A = Interval} (record { low = low; high = high }) (record { low = low'; high = high' })
same_ends low low' high high' e h = ap (λ l. record { low = l; high = high }) e ∙ ap (λ g. record { low = low'; high = g }) h

-- without a digit for null
pub plain_numbers : (base : ℤ) (f p b top : ℕ) → f ≡ 0 → Numbers base f p b top ≡ record { low = base +ℤ pos (p * b); high = base +ℤ pos (min ((p + 1) * b - 1) top) }
plain_numbers base f p b top e = subst (λ f. Numbers base f p b top ≡ record { low = base +ℤ pos (p * b); high = base +ℤ pos (min ((p + 1) * b - 1) top) }) (sym e) (same_ends _ _ _ _ (omega (arith, ints)) (omega (arith, ints)))

-- with nothing read
all_numbers : (base : ℤ) (f p b top : ℕ) → p ≡ 0 → f + top < b → Numbers base f p b top ≡ record { low = base +ℤ pos (p * b); high = base +ℤ pos (min ((p + 1) * b - 1) top) }
all_numbers base f p b top e h =
    subst (λ p. Numbers base f p b top ≡ record { low = base +ℤ pos (p * b); high = base +ℤ pos (min ((p + 1) * b - 1) top) }) (sym e)
    (same_ends _ _ _ _ (omega (arith, ints)) (omega (arith, ints)))

-- with the digit for null
digit_numbers : (base : ℤ) (f p q m b top : ℕ) → f ≡ m * b → p ≡ m + q → Numbers base f p b top ≡ record { low = base +ℤ pos (q * b); high = base +ℤ pos (min ((q + 1) * b - 1) top) }
digit_numbers base f p q m b top e h =
    let low : (m + q) * b - m * b ≡ q * b = omega arith in
    let high : (m + q + 1) * b - 1 - m * b ≡ (q + 1) * b - 1 = omega arith in
    subst (λ f. Numbers base f p b top ≡ record { low = base +ℤ pos (q * b); high = base +ℤ pos (min ((q + 1) * b - 1) top) }) (sym e)
    (subst (λ p. Numbers base (m * b) p b top ≡ record { low = base +ℤ pos (q * b); high = base +ℤ pos (min ((q + 1) * b - 1) top) }) (sym h)
    (same_ends _ _ _ _ (ap (λ n. base +ℤ pos n) low) (ap (λ n. base +ℤ pos (min n top)) high)))

no_numbers : (base : ℤ) (f p b top : ℕ) → p ≡ 0 → b ≤ f → Numbers base f p b top ≡ only base
no_numbers base f p b top e h =
    subst (λ p. Numbers base f p b top ≡ only base) (sym e) (same_ends _ _ _ _ (omega (arith, ints)) (omega (arith, ints)))

-- ---- the facts on which the word of a prefix depends

always_means : (nullable none first : Bool) → cond (nullable && none) (cond first Possibly Always) Never ≡ Always → IsTrue nullable × IsTrue none × IsFalse first
always_means true true true e = absurd (apart e)
  where
    apart : ◌≡◌ {A = Nullity} Possibly Always → ⊥
    apart e = cc
always_means true true false e = (refl, refl, refl)
always_means true false first e = absurd (apart e)
  where
    apart : ◌≡◌ {A = Nullity} Never Always → ⊥
    apart e = cc
always_means false none first e = absurd (apart e)
  where
    apart : ◌≡◌ {A = Nullity} Never Always → ⊥
    apart e = cc

not_zero : (nullable none first : Bool) → cond (nullable && none) (cond first Possibly Always) Never ≢ Always → IsTrue nullable → IsFalse first → IsFalse none
not_zero true true true h n f = f
not_zero true true false h n f = absurd (h refl)
not_zero true false first h n f = refl
not_zero false none first h n f = absurd (false≢true n)

positive : (k : ℕ) → IsFalse (k == 0) → 0 < k
positive zero h = absurd (true≢false h)
positive (suc k) h = omega arith

-- the first code is as many blocks as there are prefixes of one digit less
first_blocks : (ends : Ends) (read : ℕ) → IsTrue ends.nullable → 0 < read → read ≤ planes ends → first_code ends ≡ 2 ^ (read - 1) * block ends read
first_blocks ends read n some few =
    let is = nullable_column ends n in
    let wide = is.0 in
    let all : width ends ≡ (read - 1) + (planes ends - read) = omega arith in
    is.1 ∙ ap (λ k. 2 ^ k) all ∙ pow-add 2 (read - 1) (planes ends - read)

module _ (ends : Ends) (read prefix : ℕ) (few : read ≤ planes ends) (legal : IsLegal ends read prefix) where
  abbrev Goal : ℕ → Type 0
  Goal q = (range_of ends read prefix).numbers ≡ record { low = ends.base +ℤ pos (q * block ends read); high = ends.base +ℤ pos (min ((q + 1) * block ends read - 1) (spread ends)) }

  -- nothing read
  at_start : IsTrue ends.nullable → IsTrue (read == 0) → Goal prefix
  at_start n start =
      let none = eqb-true read 0 start in
      let cell = (prefixes_are_legal ends read prefix).has_cell legal in
      let zero_is : prefix ≡ 0 = sym cell.2 ∙ ap (λ k. prefix_of ends k cell.0) none ∙ none_read ends cell.0 cell.1 in
      let is = nullable_column ends n in
      let more : 2 ^ suc (width ends) ≡ 2 * 2 ^ width ends = pow-succ' 2 (width ends) in
      let digits = below_digits (spread ends) in
      let all : planes ends - read ≡ suc (width ends) = ap (λ k. planes ends - k) none ∙ (let wide = is.0 in omega arith) in
      let large : first_code ends + spread ends < block ends read =
      subst (λ k. first_code ends + spread ends < 2 ^ k) (sym all) (subst (λ f. f + spread ends < 2 ^ suc (width ends)) (sym is.1) (omega arith)) in
      all_numbers ends.base (first_code ends) prefix (block ends read) (spread ends) zero_is large

  -- the digit for null is read, and is 1
  behind : IsTrue ends.nullable → (range_of ends read prefix).null ≢ Always → IsFalse (read == 0) → Goal (prefix - 2 ^ (read - 1))
  behind n word later =
      let some = positive read later in
      let b = block ends read in
      let m = 2 ^ (read - 1) in
      let blocks = first_blocks ends read n some few in
      let other = not_zero ends.nullable (prefix == 0) (read == 0) word n later in
      let low : m ≤ prefix = elim (legal_cases ends read prefix legal) [
        | inl (null, z) ↦ absurd (true≢false (sym (eq-eqb prefix 0 z) ∙ other))
        | inr (low, high) ↦
            (let plain : code ends (Some 0) ≡ m * b + 0 = omega arith in
            let first : prefix_of ends read (Some 0) ≡ m = ap (λ z. z / b) plain ∙ div-mul-add m b 0 (block_pos ends read) in
            omega arith)
      ] in
      digit_numbers ends.base (first_code ends) prefix (prefix - m) m b (spread ends) blocks (omega arith)

  by_read : IsTrue ends.nullable → (range_of ends read prefix).null ≢ Always → (◌≡◌ {A = Bool} (read == 0) true ⊎ ◌≡◌ {A = Bool} (read == 0) false) → Goal (number_prefix ends read prefix)
  by_read n word (inl start) =
      let same : number_prefix ends read prefix ≡ prefix =
      cond-false (ends.nullable && not (read == 0)) (prefix - 2 ^ (read - 1)) prefix (ap (λ b. ends.nullable && not b) start ∙ and_right ends.nullable false refl) in
      subst Goal (sym same) (at_start n start)
  by_read n word (inr later) =
      let same : number_prefix ends read prefix ≡ prefix - 2 ^ (read - 1) =
      cond-true (ends.nullable && not (read == 0)) (prefix - 2 ^ (read - 1)) prefix (and_from ends.nullable (not (read == 0)) n (ap not later)) in
      subst Goal (sym same) (behind n word later)

pub ranges_have_digits : RangesHaveDigits
ranges_have_digits ends read prefix few legal = record {
  some = λ word. elim (cases_Bool ends.nullable) [
    | inr n ↦
        (let plain : number_prefix ends read prefix ≡ prefix = cond-false (ends.nullable && not (read == 0)) (prefix - 2 ^ (read - 1)) prefix (and_left ends.nullable (not (read == 0)) n) in
        subst (Goal ends read prefix few legal) (sym plain) (plain_numbers ends.base (first_code ends) prefix (block ends read) (spread ends) (plain_column ends n).1))
    | inl n ↦ by_read ends read prefix few legal n word (cases_Bool (read == 0))
  ];
  none = λ word. (let facts = always_means ends.nullable (prefix == 0) (read == 0) word in
      no_numbers ends.base (first_code ends) prefix (block ends read) (spread ends) (eqb-true prefix 0 facts.1) (block_small ends read facts.0 (positive read facts.2)));
}
