-- The places of prefixes by their digits: downwards the greatest comes first, upwards the least, and null last.
use Rattle.std.proofs.Common.{◌≡◌, ℕ, zero, suc, ◌+◌, ◌-◌, ◌*◌, ◌/◌, ◌%◌, ◌^◌, ◌<◌, ◌≤◌, ◌==◌, Bool, true, false, not, refl, sym, ap, ◌∙◌, arith}
use Rattle.std.proofs.lemmas.Bool.Decides.{nat_tests}
use Rattle.std.proofs.Math.Nat.{pow-suc, div-div-eq-div-mul, div-one}
use Rattle.std.proofs.lemmas.Nat.{pow_pos}
use Rattle.query_model.proofs.Blocks.{quotient_from}
use Rattle.known_column.specs.Columns.{digit_of}
use Rattle.topk_bounds.specs.Cuts.{is_later, place_after}
use Rattle.topk_bounds.proofs.Counting.{one_if}

pub place_next : (first : ℕ → Bool) (read j p : ℕ) → place_after first read (j + 1) p ≡ 2 * place_after first read j p + one_if (is_later (first j) (digit_of read j p))
place_next first read j p = (let e : j + 1 ≡ suc j = omega arith in ap (λ k. place_after first read k p) e)

-- a digit more behind the others leaves the place by the first ones
digit_longer : (read j p b : ℕ) → b ≤ 1 → j < read → digit_of (read + 1) j (2 * p + b) ≡ digit_of read j p
digit_longer read j p b small h =
    let k = read - (j + 1) in
    let e : read + 1 - (j + 1) ≡ suc k = omega arith in
    let twice : 2 ^ suc k ≡ 2 * 2 ^ k = omega (arith, pow-suc 2 k) in
    let half : (2 * p + b) / 2 ≡ p = omega arith in
    ap (λ n. n % 2 == 1)
    (ap (λ n. (2 * p + b) / 2 ^ n) e ∙ ap (λ n. (2 * p + b) / n) twice ∙ sym (div-div-eq-div-mul (2 * p + b) 2 (2 ^ k)) ∙ ap (λ n. n / 2 ^ k) half)

pub place_longer : (first : ℕ → Bool) (read j p b : ℕ) → b ≤ 1 → j ≤ read → place_after first (read + 1) j (2 * p + b) ≡ place_after first read j p
place_longer first read zero p b small h = refl
place_longer first read (suc j) p b small h =
    ap (λ n. 2 * n + one_if (is_later (first j) (digit_of (read + 1) j (2 * p + b)))) (place_longer first read j p b small (omega arith))
    ∙ ap (λ d. 2 * place_after first read j p + one_if (is_later (first j) d)) (digit_longer read j p b small (omega arith))

half_digit : (q : ℕ) → q ≡ 2 * (q / 2) + one_if (q % 2 == 1)
half_digit q = grind (arith, nat_tests)

-- the first digits
heads : (read j p : ℕ) → j < read → p / 2 ^ (read - (j + 1)) ≡ 2 * (p / 2 ^ (read - j)) + one_if (digit_of read j p)
heads read j p h =
    let k = read - (j + 1) in
    let e : read - j ≡ suc k = omega arith in
    let half : p / 2 ^ k / 2 ≡ p / 2 ^ (read - j) = div-div-eq-div-mul p (2 ^ k) 2 ∙ ap (λ n. p / n) (sym (pow-suc 2 k)) ∙ ap (λ n. p / 2 ^ n) (sym e) in
    half_digit (p / 2 ^ k) ∙ ap (λ n. 2 * n + one_if (digit_of read j p)) half

flip : (d : Bool) → one_if (not d) + one_if d ≡ 1
flip true = refl
flip false = refl

module _ (read p : ℕ) (small : p < 2 ^ read) where
  no_digit : p / 2 ^ (read - 0) ≡ 0
  no_digit = (let e : read - 0 ≡ read = omega arith in ap (λ n. p / 2 ^ n) e ∙ quotient_from 0 (2 ^ read) p (omega arith) (omega (arith, small)))

  all_digits : p / 2 ^ (read - read) ≡ p
  all_digits = (let e : read - read ≡ 0 = omega arith in ap (λ n. p / 2 ^ n) e ∙ div-one p)

  module _ (first : ℕ → Bool) where
    next_by : (j : ℕ) (f : Bool) → first j ≡ f → place_after first read (suc j) p ≡ 2 * place_after first read j p + one_if (is_later f (digit_of read j p))
    next_by j f e = ap (λ g. 2 * place_after first read j p + one_if (is_later g (digit_of read j p))) e

    heads_at : (j : ℕ) → j < read → p / 2 ^ (read - suc j) ≡ 2 * (p / 2 ^ (read - j)) + one_if (digit_of read j p)
    heads_at j h = (let e : suc j ≡ j + 1 = omega arith in ap (λ n. p / 2 ^ (read - n)) e ∙ heads read j p h)

    downwards : ((j : ℕ) → first j ≡ true) → (j : ℕ) → j ≤ read → place_after first read j p + p / 2 ^ (read - j) + 1 ≡ 2 ^ j
    downwards all zero h = ap (λ n. 0 + n + 1) no_digit
    downwards all (suc j) h = omega (arith, downwards all j (omega arith), next_by j true (all j), heads_at j (omega arith), flip (digit_of read j p), pow-suc 2 j)

    upwards : ((j : ℕ) → first j ≡ false) → (j : ℕ) → j ≤ read → place_after first read j p ≡ p / 2 ^ (read - j)
    upwards all zero h = sym no_digit
    upwards all (suc j) h = omega (arith, upwards all j (omega arith), next_by j false (all j), heads_at j (omega arith))

    null_last : first 0 ≡ true → ((j : ℕ) → first (suc j) ≡ false) → (j : ℕ) → j < read → place_after first read (suc j) p + 2 ^ j * 2 * one_if (digit_of read 0 p) ≡ p / 2 ^ (read - suc j) + 2 ^ j
    null_last null others zero h = omega (arith, next_by 0 true null, heads_at 0 (omega arith), no_digit, flip (digit_of read 0 p))
    null_last null others (suc j) h = by (place_after first read (suc j) p) (place_after first read (suc (suc j)) p) (p / 2 ^ (read - suc j)) (p / 2 ^ (read - suc (suc j))) (2 ^ j) (2 ^ suc j)
        (one_if (digit_of read 0 p)) (one_if (digit_of read (suc j) p)) (null_last null others j (omega arith)) (next_by (suc j) false (others j)) (heads_at (suc j) (omega arith)) (pow-suc 2 j)
      where
        by : (a a' h h' w w' c d : ℕ) → a + w * 2 * c ≡ h + w → a' ≡ 2 * a + d → h' ≡ 2 * h + d → w' ≡ w * 2 → a' + w' * 2 * c ≡ h' + w'
        by a a' h h' w w' c d e f g k = (let z : w' * 2 * c ≡ 2 * (w * 2 * c) = ap (λ n. n * 2 * c) k ∙ omega arith in omega (arith, z))

    -- ---- by all digits

    pub place_down : ((j : ℕ) → first j ≡ true) → place_after first read read p + p + 1 ≡ 2 ^ read
    place_down all = ap (λ n. place_after first read read p + n + 1) (sym all_digits) ∙ downwards all read (omega arith)

    pub place_up : ((j : ℕ) → first j ≡ false) → place_after first read read p ≡ p
    place_up all = upwards all read (omega arith) ∙ all_digits

-- upwards with null: null behind all numbers, whose first digit is 1
module _ (k p : ℕ) (small : p < 2 ^ suc k) (first : ℕ → Bool) (null : first 0 ≡ true) (others : (j : ℕ) → first (suc j) ≡ false) where
  all_of : place_after first (suc k) (suc k) p + 2 ^ k * 2 * one_if (digit_of (suc k) 0 p) ≡ p + 2 ^ k
  all_of = null_last (suc k) p small first null others k (omega arith) ∙ ap (λ n. n + 2 ^ k) (all_digits (suc k) p small)

  top_digit : p / 2 ^ k ≡ one_if (digit_of (suc k) 0 p)
  top_digit =
      let e : suc k - suc 0 ≡ k = omega arith in
      let whole = heads_at (suc k) p small first 0 (omega arith) in
      ap (λ n. p / 2 ^ n) (sym e) ∙ whole ∙ ap (λ n. 2 * n + one_if (digit_of (suc k) 0 p)) (no_digit (suc k) p small) ∙ omega arith

  pub place_null : p ≡ 0 → place_after first (suc k) (suc k) p ≡ 2 ^ k
  place_null z =
      let none : one_if (digit_of (suc k) 0 p) ≡ 0 = sym top_digit ∙ quotient_from 0 (2 ^ k) p (omega (arith, z)) (omega (arith, z, pow_pos k)) in
      let zeros : 2 ^ k * 2 * one_if (digit_of (suc k) 0 p) ≡ 0 = ap (λ n. 2 ^ k * 2 * n) none ∙ omega arith in
      omega (arith, all_of, zeros, z)

  pub place_number : 2 ^ k ≤ p → place_after first (suc k) (suc k) p + 2 ^ k ≡ p
  place_number h =
      let one : one_if (digit_of (suc k) 0 p) ≡ 1 = sym top_digit ∙ quotient_from 1 (2 ^ k) p (omega arith) (omega (arith, small, pow-suc 2 k)) in
      let twice : 2 ^ k * 2 * one_if (digit_of (suc k) 0 p) ≡ 2 ^ k * 2 = ap (λ n. 2 ^ k * 2 * n) one ∙ omega arith in
      omega (arith, all_of, twice)
