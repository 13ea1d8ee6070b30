-- The rows of a block whose bits in a word are 1, gone through one by one from the lowest.
use Rattle.std.proofs.Common.{◌≡◌, ◌≢◌, ℕ, zero, suc, ◌+◌, ◌-◌, ◌*◌, ◌/◌, ◌%◌, ◌^◌, ◌<◌, ◌≤◌, ◌==◌, not, true, false, inl, inr, refl, sym, ap, subst, ◌∙◌, arith}
use Rattle.std.specs.Int.{bit_at, bit_not, trailing_zeros, w64}
use Rattle.std.specs.Int.Bits.{bit_and}
use Rattle.std.proofs.Math.Nat.{div-div-eq-div-mul}
use Rattle.std.proofs.lemmas.Bool.{cases_eq, cases_lt, false≢true}
use Rattle.std.proofs.lemmas.Bool.Decides.{nat_tests}
use Rattle.std.proofs.lemmas.Nat.{pow-add, pow_pos}
use Rattle.std.proofs.lemmas.Nat.Bits.{bit_at-lt, bit_at-pow_other, bit_at-pow_same, bit_at-trailing_zeros, bit_at_above, bit_at_and, bit_at_cat_high, bit_at_cat_low, bit_at_not, bit_at_ones_above, same_from_bits}
use Rattle.digit_sums.specs.declared.ones.RowBits.{RowBits}
use Rattle.kleene_filter.proofs.WordBits.{digit-zero}
use Rattle.plane_kernels.specs.Rows.{digit_at}

-- ---- the lowest bit is cleared

one_less : (n a b : ℕ) → n ≡ a + b → 0 < b → n - 1 ≡ a + (b - 1)
one_less n a b e some = omega arith

bit_above : (n k i : ℕ) → k ≤ i → bit_at (n / 2 ^ k) (i - k) ≡ bit_at n i
bit_above n k i later =
    let place : k + (i - k) ≡ i = omega arith in
    ap (λ m. m % 2) (div-div-eq-div-mul n (2 ^ k) (2 ^ (i - k)) ∙ ap (λ m. n / m) (sym (pow-add 2 k (i - k)))) ∙ ap (bit_at n) place

module _ (n : ℕ) (some : 0 < n) (fits : n < 18446744073709551616) where
  abbrev lowest : ℕ
  lowest = trailing_zeros w64 n

  abbrev higher : ℕ
  higher = n / 2 ^ (lowest + 1)

  low_bits : (i : ℕ) → i < lowest + 1 → bit_at n i ≡ bit_at (2 ^ lowest) i
  low_bits i low = elim (cases_eq i lowest) [
    | inl here ↦ ap (bit_at n) here ∙ (bit_at-trailing_zeros w64 n some fits).1 ∙ sym (ap (bit_at (2 ^ lowest)) here ∙ bit_at-pow_same lowest)
    | inr other ↦ (bit_at-trailing_zeros w64 n some fits).2 i (omega (arith, low, other)) ∙ sym (bit_at-pow_other lowest i other)
  ]

  -- a word is its higher bits and its lowest
  parted : n ≡ higher * 2 ^ (lowest + 1) + 2 ^ lowest
  parted = same_from_bits n (higher * 2 ^ (lowest + 1) + 2 ^ lowest) (λ i. elim (cases_lt i (lowest + 1)) [
    | inl low ↦ low_bits i low ∙ sym (bit_at_cat_low higher (lowest + 1) (2 ^ lowest) i low)
    | inr high ↦ sym (bit_at_cat_high higher (lowest + 1) (2 ^ lowest) i (omega (arith, pow_pos lowest, pow-add 2 lowest 1)) high ∙ bit_above n (lowest + 1) i high)
  ])

  less : n - 1 ≡ higher * 2 ^ (lowest + 1) + (2 ^ lowest - 1)
  less = one_less n (higher * 2 ^ (lowest + 1)) (2 ^ lowest) parted (pow_pos lowest)

  pub cleared_here : bit_at (bit_and n (n - 1)) lowest ≡ 0
  cleared_here =
      let none : bit_at (n - 1) lowest ≡ 0 = ap (λ m. bit_at m lowest) less ∙ bit_at_cat_low higher (lowest + 1) (2 ^ lowest - 1) lowest (omega arith) ∙ bit_at_ones_above lowest lowest (omega arith) in
      bit_at_and n (n - 1) lowest ∙ omega (arith, none)

  pub cleared_other : (i : ℕ) → i ≢ lowest → bit_at (bit_and n (n - 1)) i ≡ bit_at n i
  cleared_other i other = elim (cases_lt i lowest) [
    | inl low ↦ (let none = (bit_at-trailing_zeros w64 n some fits).2 i low in bit_at_and n (n - 1) i ∙ omega (arith, none))
    | inr high ↦
        (let after : lowest + 1 ≤ i = omega (arith, high, other) in
        let same : bit_at (n - 1) i ≡ bit_at n i = ap (λ m. bit_at m i) less
        ∙ bit_at_cat_high higher (lowest + 1) (2 ^ lowest - 1) i (omega (arith, pow_pos lowest, pow-add 2 lowest 1)) after ∙ bit_above n (lowest + 1) i after in
        bit_at_and n (n - 1) i ∙ omega (arith, same))
  ]

-- no bit is left that was not there
pub rest_inside : (n : ℕ) → 0 < n → n < 18446744073709551616 → (row : ℕ) → digit_at row (bit_and n (n - 1)) ≡ true → digit_at row n ≡ true
rest_inside n some fits row bit = elim (cases_eq row (trailing_zeros w64 n)) [
  | inl here ↦ ap (λ k. digit_at k n) here ∙ ap (λ b. b == 1) (bit_at-trailing_zeros w64 n some fits).1
  | inr other ↦ sym (ap (λ b. b == 1) (cleared_other n some fits row other)) ∙ bit
]

pub digit-not : (r a : ℕ) → a < 18446744073709551616 → r < 64 → digit_at r (bit_not w64 a) ≡ not (digit_at r a)
digit-not r a fits within = ap (λ n. n == 1) (bit_at_not w64 a r fits within) ∙ other (bit_at a r) (bit_at-lt a r)
  where
    other : (n : ℕ) → n < 2 → (1 - n == 1) ≡ not (n == 1)
    other n h = grind (arith, nat_tests)

-- a bit of a word of so many bits is below their number
pub bit_below : (word n r : ℕ) → word < 2 ^ n → digit_at r word ≡ true → r < n
bit_below word n r fits bit = elim (cases_lt r n) [
  | inl low ↦ low
  | inr high ↦ absurd (false≢true (sym (ap (λ k. k == 1) (bit_at_above word n r fits high)) ∙ bit))
]

-- ---- the rows of a block that have a bit are gone through from the lowest on

-- those below some one are done, and what is left of the word has the others
pub record AreDone (count word rest : ℕ) (Done : ℕ → Type 0) : Type 0 where
  pub next : ℕ
  pub most : next ≤ count
  pub below : (r : ℕ) → r < next → digit_at r rest ≡ false
  pub above : (r : ℕ) → next ≤ r → digit_at r rest ≡ digit_at r word
  pub done : Done next

pub done_start : (count word : ℕ) (Done : ℕ → Type 0) → Done 0 → AreDone count word word Done
done_start count word Done start = record {
  next = 0;
  most = omega arith;
  below = λ r low. absurd (omega (arith, low));
  above = λ r high. refl;
  done = start;
}

-- a row without a bit may be passed over
abbrev pub PassesOver : ℕ → ℕ → (ℕ → Type 0) → Type 0
PassesOver count word Done = (r : ℕ) → r < count → digit_at r word ≡ false → Done r → Done (r + 1)

passed : (count word : ℕ) (Done : ℕ → Type 0) → PassesOver count word Done → (from n : ℕ) → from + n ≤ count → ((r : ℕ) → from ≤ r → r < from + n → digit_at r word ≡ false) → Done from → Done (from + n)
passed count word Done over from zero few none start = (let same : from ≡ from + 0 = omega arith in subst Done same start)
passed count word Done over from (suc n) few none start =
    let next : from + n + 1 ≡ from + suc n = omega arith in
    subst Done next (over (from + n) (omega (arith, few)) (none (from + n) (omega arith) (omega arith))
    (passed count word Done over from n (omega (arith, few)) (λ r low high. none r low (omega (arith, high))) start))

module _ (count word rest : ℕ) (Done : ℕ → Type 0) (over : PassesOver count word Done) (are : AreDone count word rest Done) where
  up_to : (row : ℕ) → are.next ≤ row → row ≤ count → ((r : ℕ) → r < row → digit_at r rest ≡ false) → Done row
  up_to row after few none =
      let end : are.next + (row - are.next) ≡ row = omega (arith, after) in
      subst Done end (passed count word Done over are.next (row - are.next) (omega (arith, end, few)) (λ r low high. sym (are.above r low) ∙ none r (omega (arith, high, end))) are.done)

  -- the row of the lowest bit is done too
  pub done_more : (Next : ℕ → Type 0) → 0 < rest → rest < 18446744073709551616 → trailing_zeros w64 rest < count → (Done (trailing_zeros w64 rest) → Next (trailing_zeros w64 rest + 1)) → AreDone count word (bit_and rest (rest - 1)) Next
  done_more Next some fits inside step =
      let row = trailing_zeros w64 rest in
      let lowest = bit_at-trailing_zeros w64 rest some fits in
      let after : are.next ≤ row = elim (cases_lt row are.next) [
        | inl low ↦ absurd (false≢true (sym (are.below row low) ∙ ap (λ b. b == 1) lowest.1))
        | inr high ↦ high
      ] in
      let none : (r : ℕ) → r < row → digit_at r rest ≡ false = λ r low. ap (λ b. b == 1) (lowest.2 r low) in
      record {
        next = row + 1;
        most = omega (arith, inside);
        below = λ r low. elim (cases_eq r row) [
          | inl here ↦ ap (λ k. digit_at k (bit_and rest (rest - 1))) here ∙ ap (λ b. b == 1) (cleared_here rest some fits)
          | inr other ↦ ap (λ b. b == 1) (cleared_other rest some fits r other) ∙ none r (omega (arith, low, other))
        ];
        above = λ r high. ap (λ b. b == 1) (cleared_other rest some fits r (λ e. absurd (omega (arith, e, high)))) ∙ are.above r (omega (arith, high, after));
        done = step (up_to row after (omega (arith, inside)) none);
      }

  -- where no bit is left, all rows are
  pub done_whole : rest ≡ 0 → Done count
  done_whole gone = up_to count are.most (omega arith) (λ r low. ap (digit_at r) gone ∙ digit-zero r)

-- ---- counts

abbrev counts_of : ℕ → ℕ → RowBits
counts_of ones at_top = record { ones = ones; at_top = at_top }

pub same_counts : (a b c d : ℕ) → a ≡ b → c ≡ d → counts_of a c ≡ counts_of b d
same_counts a b c d h k = ap (λ n. counts_of n c) h ∙ ap (counts_of b) k
