-- The masks of cells, parted by the bits of a plane.
use Rattle.std.proofs.Common.{◌≡◌, ℕ, suc, ◌+◌, ◌-◌, ◌*◌, ◌/◌, ◌%◌, ◌^◌, ◌<◌, ◌≤◌, ◌==◌, Bool, true, false, not, ◌&&◌, cond, List, [], ◌∷◌, length, map, inl, inr, refl, sym, ap, subst, ◌∙◌, arith}
use Rattle.std.specs.Simd.Lanes.{zip2}
use Rattle.std.proofs.Math.Nat.{mod-lt, pow-succ'}
use Rattle.std.proofs.lemmas.Bool.{true≢false, cases_Bool, cases_eq, eq-eqb, ne_eqb}
use Rattle.std.proofs.lemmas.Simd.{length-zip2}
use Rattle.std.proofs.lemmas.Nat.{div-add-mod', div-mul-add, div_below, mod-mul-add, mod_below, pow-add, pow_pos}
use Rattle.plane_kernels.specs.Rows.{kept_rows}
use Rattle.row_groups.specs.Keeping.{digit_in, inserted, without_digit}
use Rattle.row_groups.proofs.Inserting.{bit_small}

-- ---- a digit put in and taken out again

half_of : (q b : ℕ) → b < 2 → (2 * q + b) / 2 ≡ q
half_of q b h = omega arith

rest_of : (q b : ℕ) → b < 2 → (2 * q + b) % 2 ≡ b
rest_of q b h = omega arith

one_is : (bit : Bool) → (cond bit 1 0 == 1) ≡ bit
one_is true = refl
one_is false = refl

module _ (s cell : ℕ) (bit : Bool) where
  above : inserted s cell bit / 2 ^ s ≡ 2 * (cell / 2 ^ s) + cond bit 1 0
  above = div-mul-add (2 * (cell / 2 ^ s) + cond bit 1 0) (2 ^ s) (cell % 2 ^ s) (mod_below cell (2 ^ s) (pow_pos s))

  below : inserted s cell bit % 2 ^ s ≡ cell % 2 ^ s
  below = mod-mul-add (2 * (cell / 2 ^ s) + cond bit 1 0) (2 ^ s) (cell % 2 ^ s) (mod_below cell (2 ^ s) (pow_pos s))

  pub without_inserted : without_digit s (inserted s cell bit) ≡ cell
  without_inserted =
      ap (λ n. n / 2 * 2 ^ s + inserted s cell bit % 2 ^ s) above ∙ ap (λ n. (2 * (cell / 2 ^ s) + cond bit 1 0) / 2 * 2 ^ s + n) below
      ∙ ap (λ n. n * 2 ^ s + cell % 2 ^ s) (half_of (cell / 2 ^ s) (cond bit 1 0) (bit_small bit)) ∙ div-add-mod' cell (2 ^ s)

  pub digit_inserted : digit_in s (inserted s cell bit) ≡ bit
  digit_inserted = ap (λ n. n % 2 == 1) above ∙ ap (λ n. n == 1) (rest_of (cell / 2 ^ s) (cond bit 1 0) (bit_small bit)) ∙ one_is bit

digit_number : (n : ℕ) → cond (n % 2 == 1) 1 0 ≡ n % 2
digit_number n = elim (cases_eq (n % 2) 1) [
  | inl one ↦ ap (λ (b : Bool). cond b 1 0) (eq-eqb (n % 2) 1 one) ∙ sym one
  | inr other ↦ ap (λ (b : Bool). cond b 1 0) (ne_eqb (n % 2) 1 other) ∙ (let few = mod-lt n {m = 2} (omega arith) in omega (arith, other, few))
]

halves : (n : ℕ) → 2 * (n / 2) + n % 2 ≡ n
halves n = omega arith

pub inserted_without : (s cell : ℕ) → inserted s (without_digit s cell) (digit_in s cell) ≡ cell
inserted_without s cell =
    let d = 2 ^ s in
    let q = cell / d in
    let low = mod_below cell d (pow_pos s) in
    ap (λ n. (2 * n + cond (digit_in s cell) 1 0) * d + without_digit s cell % d) (div-mul-add (q / 2) d (cell % d) low)
    ∙ ap (λ n. (2 * (q / 2) + cond (digit_in s cell) 1 0) * d + n) (mod-mul-add (q / 2) d (cell % d) low)
    ∙ ap (λ n. (2 * (q / 2) + n) * d + cell % d) (digit_number q) ∙ ap (λ n. n * d + cell % d) (halves q) ∙ div-add-mod' cell d

-- ---- where it stood before

pub without_least : (s cell : ℕ) → without_digit s cell ≤ cell
without_least s cell =
    let d = 2 ^ s in
    let whole = div-add-mod' cell d in
    at (cell / d) d (cell % d) cell whole
  where
    product : (q d : ℕ) → q / 2 * d ≤ q * d
    product q d = (let e : q ≡ q / 2 + (q - q / 2) = omega arith in let p : q * d ≡ q / 2 * d + (q - q / 2) * d = ap (λ n. n * d) e ∙ omega arith in omega (arith, p))

    at : (q d r cell : ℕ) → q * d + r ≡ cell → q / 2 * d + r ≤ cell
    at q d r cell e = (let less = product q d in omega (arith, e, less))

pub without_below : (s k cell : ℕ) → s ≤ k → cell < 2 ^ (k + 1) → without_digit s cell < 2 ^ k
without_below s k cell h small =
    let d = 2 ^ s in
    let m = 2 ^ (k - s) in
    let e : k ≡ (k - s) + s = omega arith in
    let size : 2 ^ k ≡ m * d = ap (λ n. 2 ^ n) e ∙ pow-add 2 (k - s) s in
    let twice : 2 ^ (k + 1) ≡ 2 * 2 ^ k = (let t : 2 ^ suc k ≡ 2 * 2 ^ k = pow-succ' 2 k in subst (λ n. 2 ^ n ≡ 2 * 2 ^ k) (omega arith) t) in
    let all : 2 ^ (k + 1) ≡ (2 * m) * d = twice ∙ ap (λ n. 2 * n) size ∙ omega arith in
    let q : cell / d < 2 * m = div_below cell d (2 * m) (pow_pos s) (subst (λ n. cell < n) all small) in
    let half : cell / d / 2 < m = omega (arith, q) in
    subst (λ n. without_digit s cell < n) (sym size) (within (cell / d / 2) m d (cell % d) half (mod_below cell d (pow_pos s)))
  where
    within : (q m d r : ℕ) → q < m → r < d → q * d + r < m * d
    within q m d r h low = (let e : m ≡ q + 1 + (m - q - 1) = omega (arith, h) in let p : m * d ≡ (q + 1) * d + (m - q - 1) * d = ap (λ n. n * d) e ∙ omega arith in omega (arith, p, low))

-- ---- the rows

-- a row is in a cell where it was in the cell without the digit, and has the digit
same_digit : (s k c : ℕ) (bit : Bool) → digit_in s k ≡ bit → (inserted s c bit == k) ≡ (c == without_digit s k)
same_digit s k c bit is = elim (cases_eq c (without_digit s k)) [
  | inl here ↦ eq-eqb (inserted s c bit) k (ap (λ n. inserted s n bit) here ∙ ap (inserted s (without_digit s k)) (sym is) ∙ inserted_without s k) ∙ sym (eq-eqb c (without_digit s k) here)
  | inr other ↦ ne_eqb (inserted s c bit) k (λ e. other (sym (without_inserted s c bit) ∙ ap (without_digit s) e)) ∙ sym (ne_eqb c (without_digit s k) other)
]

other_digit : (s k c : ℕ) (bit : Bool) → (digit_in s k ≡ bit → ⊥) → (inserted s c bit == k) ≡ false
other_digit s k c bit differs = ne_eqb (inserted s c bit) k (λ e. differs (ap (digit_in s) (sym e) ∙ digit_inserted s c bit))

and_true : (b : Bool) → (b && true) ≡ b
and_true true = refl
and_true false = refl

and_false : (b : Bool) → (b && false) ≡ false
and_false true = refl
and_false false = refl

one_row : (s k c : ℕ) (bit : Bool) → digit_in s k ≡ true → ((c == without_digit s k) && bit) ≡ (inserted s c bit == k)
one_row s k c true is = and_true (c == without_digit s k) ∙ sym (same_digit s k c true is)
one_row s k c false is = and_false (c == without_digit s k) ∙ sym (other_digit s k c false (λ e. true≢false (sym is ∙ e)))

zero_row : (s k c : ℕ) (bit : Bool) → digit_in s k ≡ false → ((c == without_digit s k) && not bit) ≡ (inserted s c bit == k)
zero_row s k c true is = and_false (c == without_digit s k) ∙ sym (other_digit s k c true (λ e. true≢false (sym e ∙ is)))
zero_row s k c false is = and_true (c == without_digit s k) ∙ sym (same_digit s k c false is)

one_rows : (s k : ℕ) (cells : List ℕ) (bits : List Bool) → digit_in s k ≡ true →
    zip2 (λ a b. a && b) (map (λ c. c == without_digit s k) cells) bits ≡ map (λ c. c == k) (zip2 (inserted s) cells bits)
one_rows s k [] bits is = refl
one_rows s k (c ∷ cells) [] is = refl
one_rows s k (c ∷ cells) (b ∷ bits) is = ap (λ x. x ∷ zip2 (λ a b. a && b) (map (λ c. c == without_digit s k) cells) bits) (one_row s k c b is) ∙ ap (λ l. (inserted s c b == k) ∷ l) (one_rows s k cells bits is)

zero_rows : (s k : ℕ) (cells : List ℕ) (bits : List Bool) → digit_in s k ≡ false →
    zip2 (λ a b. a && not b) (map (λ c. c == without_digit s k) cells) bits ≡ map (λ c. c == k) (zip2 (inserted s) cells bits)
zero_rows s k [] bits is = refl
zero_rows s k (c ∷ cells) [] is = refl
zero_rows s k (c ∷ cells) (b ∷ bits) is = ap (λ x. x ∷ zip2 (λ a b. a && not b) (map (λ c. c == without_digit s k) cells) bits) (zero_row s k c b is) ∙ ap (λ l. (inserted s c b == k) ∷ l) (zero_rows s k cells bits is)

pub parted_rows : (s k : ℕ) (cells : List ℕ) (bits : List Bool) →
    kept_rows (digit_in s k) (map (λ c. c == without_digit s k) cells) bits ≡ map (λ c. c == k) (zip2 (inserted s) cells bits)
parted_rows s k cells bits = elim (cases_Bool (digit_in s k)) [
  | inl one ↦ ap (λ b. kept_rows b (map (λ c. c == without_digit s k) cells) bits) one ∙ one_rows s k cells bits one
  | inr none ↦ ap (λ b. kept_rows b (map (λ c. c == without_digit s k) cells) bits) none ∙ zero_rows s k cells bits none
]

pub length-kept : (bit : Bool) (rows plane : List Bool) → length rows ≡ length plane → length (kept_rows bit rows plane) ≡ length plane
length-kept true rows plane same = length-zip2 (λ a b. a && b) rows plane same ∙ same
length-kept false rows plane same = length-zip2 (λ a b. a && not b) rows plane same ∙ same
