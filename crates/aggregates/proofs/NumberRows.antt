-- The number of a row that may have a value.
use Rattle.std.proofs.Common.{◌≡◌, ℕ, zero, suc, ◌+◌, ◌-◌, ◌*◌, ◌/◌, ◌%◌, ◌^◌, ◌<◌, ◌≤◌, ◌==◌, nat_le, nat_lt, min, Bool, true, false, ◌&&◌, ◌||◌, cond, Some, inl, inr, ◌⊎◌, refl, ap, sym, subst, ◌∙◌, arith}
use Rattle.std.proofs.Math.Nat.{pow-suc, mod-lt, div-div-eq-div-mul, add-mul-div_right, add-mul-mod_self_right, lt_of_mul-lt-mul_right, mod-eq_of_lt, mul-le-mul_right}
use Rattle.std.proofs.lemmas.Nat.{div-add-mod', le-div, pow-add, pow_pos}
use Rattle.std.proofs.lemmas.Bool.Decides.{nat_tests}
use Rattle.plane_kernels.proofs.RowLemmas.{lowest_as_number}
use Rattle.daq_table.specs.declared.head.Ends.{Ends}
use Rattle.daq_table.specs.Tables.{first_code, planes, spread, width}
use Rattle.query_model.specs.Knowledge.{is_legal, prefix_of}
use Rattle.known_column.specs.Columns.{digit_of, is_at_top, is_possible, number_of}
use Rattle.known_column.proofs.CodeDigits.{first_prefix, least_plain, least_nullable, spread_small}
use Rattle.known_column.proofs.Nulls.{legal_code, possible_row}

-- the first planes, which tell null: none or one
abbrev pub first_plane : Ends → ℕ → ℕ
first_plane ends read = min (cond ends.nullable 1 0) read

-- what the digits that were read are, as a number
pub record IsNumber (ends : Ends) (read p n : ℕ) : Type 0 where
  pub above : p * 2 ^ (planes ends - read) - first_code ends ≡ n * 2 ^ (planes ends - read)
  pub wide : min ((p + 1) * 2 ^ (planes ends - read) - 1 - first_code ends) (spread ends) ≡ n * 2 ^ (planes ends - read) + cond (is_at_top ends read p) (spread ends % 2 ^ (planes ends - read)) (2 ^ (planes ends - read) - 1)
  pub starts : (z : ℕ) → z ≤ spread ends → nat_lt (n * 2 ^ (planes ends - read)) z ≡ (nat_lt p (prefix_of ends read (Some z)) || (p == prefix_of ends read (Some z) && nat_lt 0 (z % 2 ^ (planes ends - read))))
  pub past : (z : ℕ) → z < spread ends → nat_lt z (min ((p + 1) * 2 ^ (planes ends - read) - 1 - first_code ends) (spread ends)) ≡ (nat_lt (prefix_of ends read (Some z)) p || (p == prefix_of ends read (Some z) && nat_lt (z % 2 ^ (planes ends - read) + 1) (2 ^ (planes ends - read))))
  pub least : prefix_of ends read (Some 0) ≤ p
  pub few : n * 2 ^ (planes ends - read) ≤ spread ends
  pub small : n < 2 ^ (read - first_plane ends read)
  pub digits : (j : ℕ) → first_plane ends read ≤ j → j < read → digit_of read j p ≡ ((n / 2 ^ (read - (j + 1))) % 2 == 1)

at_least : (f p : ℕ) → nat_le f p ≡ true → f ≤ p
at_least f p e = grind (arith, nat_tests)

equal_test : (a b : ℕ) → a ≡ b → (a == b) ≡ true
equal_test a b e = grind (arith, nat_tests)

few_digits : (n a d w s : ℕ) → w ≡ a + d → s < 2 ^ w → n * 2 ^ d ≤ s → n < 2 ^ a
few_digits n a d w s e small h =
    let parts : 2 ^ w ≡ 2 ^ a * 2 ^ d = ap (λ k. 2 ^ k) e ∙ pow-add 2 a d in
    lt_of_mul-lt-mul_right (2 ^ d) (omega (arith, parts, small, h))

-- a digit behind the first is that of the number
digit_behind : (n r k : ℕ) → k < r → (((n + 2 ^ r) / 2 ^ k) % 2 == 1) ≡ ((n / 2 ^ k) % 2 == 1)
digit_behind n r k h =
    let e = r - (k + 1) in
    let more : r ≡ suc e + k = omega arith in
    let parts : 2 ^ r ≡ 2 ^ suc e * 2 ^ k = ap (λ i. 2 ^ i) more ∙ pow-add 2 (suc e) k in
    let twice : 2 ^ suc e ≡ 2 ^ e * 2 = pow-suc 2 e in
    let whole : (n + 2 ^ r) / 2 ^ k ≡ n / 2 ^ k + 2 ^ suc e = ap (λ i. (n + i) / 2 ^ k) parts ∙ add-mul-div_right n (2 ^ suc e) (pow_pos k) in
    ap (λ i. i % 2 == 1) (whole ∙ ap (λ i. n / 2 ^ k + i) twice) ∙ ap (λ i. i == 1) (add-mul-mod_self_right (n / 2 ^ k) (2 ^ e) 2)

-- the block of codes of a prefix ends at the next block or at top
block_end : (n f p k fc s : ℕ) → 0 < k → p ≡ n + f → fc ≡ f * k → n * k ≤ s → min ((p + 1) * k - 1 - fc) s ≡ n * k + cond (p == (fc + s) / k) (s % k) (k - 1)
block_end n f p k fc s some is first few =
    let q = s / k in
    let top : (fc + s) / k ≡ q + f = ap (λ i. (i + s) / k) first ∙ ap (λ i. i / k) (omega arith) ∙ add-mul-div_right s f some in
    let parts : q * k + s % k ≡ s = div-add-mod' s k in
    let rest : s % k < k = mod-lt s some in
    let most : n ≤ q = le-div n s k some few in
    let block : (p + 1) * k ≡ n * k + f * k + k = ap (λ i. (i + 1) * k) is ∙ omega arith in
    let codes : (p + 1) * k - 1 - fc ≡ n * k + (k - 1) = omega (arith, block, first, some) in
    let pick : (b : Bool) → b ≡ (p == (fc + s) / k) → min (n * k + (k - 1)) s ≡ n * k + cond b (s % k) (k - 1) = λ b. elim b as (λ b. b ≡ (p == (fc + s) / k) → min (n * k + (k - 1)) s ≡ n * k + cond b (s % k) (k - 1)) [
      | true ↦ (λ e. (let same : n ≡ q = by_test p ((fc + s) / k) n q f is top e in let prod : n * k ≡ q * k = ap (λ i. i * k) same in omega (arith, prod, parts, rest)))
      | false ↦ (λ e. (let other : n + 1 ≤ q = by_no_test p ((fc + s) / k) n q f is top most e in let prod : (n + 1) * k ≤ q * k = mul-le-mul_right k other in omega (arith, prod, parts, some)))
    ] in
    ap (λ i. min i s) codes ∙ pick (p == (fc + s) / k) refl
  where
    by_test : (p t n q f : ℕ) → p ≡ n + f → t ≡ q + f → true ≡ (p == t) → n ≡ q
    by_test p t n q f e g h = grind (arith, nat_tests)

    by_no_test : (p t n q f : ℕ) → p ≡ n + f → t ≡ q + f → n ≤ q → false ≡ (p == t) → n + 1 ≤ q
    by_no_test p t n q f e g m h = grind (arith, nat_tests)

-- a number's block against another number: its first code is less where the prefix is, or at the same prefix where that is not a first code
less_start : (x z p t m : ℕ) → x < z → p < t → nat_lt x z ≡ (nat_lt p t || (p == t && nat_lt 0 m))
less_start x z p t m e f = grind (arith, nat_tests)

same_start : (x z p t m : ℕ) → x + m ≡ z → p ≡ t → nat_lt x z ≡ (nat_lt p t || (p == t && nat_lt 0 m))
same_start x z p t m e f = grind (arith, nat_tests)

more_start : (x z p t m : ℕ) → z ≤ x → t < p → nat_lt x z ≡ (nat_lt p t || (p == t && nat_lt 0 m))
more_start x z p t m e f = grind (arith, nat_tests)

cases_order : (n q : ℕ) → (n + 1 ≤ q) ⊎ ((n ≡ q) ⊎ (q + 1 ≤ n))
cases_order n q = by_test (nat_lt n q) (n == q) refl refl
  where
    by_test : (a b : Bool) → nat_lt n q ≡ a → (n == q) ≡ b → (n + 1 ≤ q) ⊎ ((n ≡ q) ⊎ (q + 1 ≤ n))
    by_test true b e f = inl (grind (arith, nat_tests))
    by_test false true e f = inr (inl (grind (arith, nat_tests)))
    by_test false false e f = inr (inr (grind (arith, nat_tests)))

block_start : (n f p k fc z : ℕ) → 0 < k → p ≡ n + f → fc ≡ f * k → nat_lt (n * k) z ≡ (nat_lt p ((fc + z) / k) || (p == (fc + z) / k && nat_lt 0 (z % k)))
block_start n f p k fc z some is first =
    let q = z / k in
    let top : (fc + z) / k ≡ q + f = ap (λ i. (i + z) / k) first ∙ ap (λ i. i / k) (let e : f * k + z ≡ z + f * k = omega arith in e) ∙ add-mul-div_right z f some in
    let parts : q * k + z % k ≡ z = div-add-mod' z k in
    let rest : z % k < k = mod-lt z some in
    elim (cases_order n q) [
      | inl less ↦ (let prod : (n + 1) * k ≤ q * k = mul-le-mul_right k less in less_start (n * k) z p ((fc + z) / k) (z % k) (omega (arith, prod, parts, some)) (omega (arith, top, is, less)))
      | inr other ↦ elim other [
        | inl same ↦ (let prod : n * k ≡ q * k = ap (λ i. i * k) same in same_start (n * k) z p ((fc + z) / k) (z % k) (omega (arith, prod, parts)) (omega (arith, top, is, same)))
        | inr more ↦ (let prod : (q + 1) * k ≤ n * k = mul-le-mul_right k more in more_start (n * k) z p ((fc + z) / k) (z % k) (omega (arith, prod, parts, rest)) (omega (arith, top, is, more)))
      ]
    ]

-- the block's last code against a number: it is greater where the prefix is, or at the same prefix where the number is no last code
more_end : (x z p t m k : ℕ) → x ≤ z → p < t → nat_lt z x ≡ (nat_lt t p || (p == t && nat_lt (m + 1) k))
more_end x z p t m k e f = grind (arith, nat_tests)

same_end : (x z p t m k : ℕ) → x + (m + 1) ≡ z + k → p ≡ t → nat_lt z x ≡ (nat_lt t p || (p == t && nat_lt (m + 1) k))
same_end x z p t m k e f = grind (arith, nat_tests)

less_end : (x z p t m k : ℕ) → z < x → t < p → nat_lt z x ≡ (nat_lt t p || (p == t && nat_lt (m + 1) k))
less_end x z p t m k e f = grind (arith, nat_tests)

wide_end : (x z p t m k : ℕ) → z < x → p ≡ t → m + 1 < k → nat_lt z x ≡ (nat_lt t p || (p == t && nat_lt (m + 1) k))
wide_end x z p t m k e f g = grind (arith, nat_tests)

clipped_end : (z x s : ℕ) → z < s → nat_lt z (min x s) ≡ nat_lt z x
clipped_end z x s h = grind (arith, nat_tests)

block_past : (n f p k fc z : ℕ) → 0 < k → p ≡ n + f → fc ≡ f * k → nat_lt z ((p + 1) * k - 1 - fc) ≡ (nat_lt ((fc + z) / k) p || (p == (fc + z) / k && nat_lt (z % k + 1) k))
block_past n f p k fc z some is first =
    let q = z / k in
    let top : (fc + z) / k ≡ q + f = ap (λ i. (i + z) / k) first ∙ ap (λ i. i / k) (let e : f * k + z ≡ z + f * k = omega arith in e) ∙ add-mul-div_right z f some in
    let parts : q * k + z % k ≡ z = div-add-mod' z k in
    let rest : z % k < k = mod-lt z some in
    let block : (p + 1) * k ≡ n * k + f * k + k = ap (λ i. (i + 1) * k) is ∙ omega arith in
    let codes : (p + 1) * k - 1 - fc ≡ n * k + (k - 1) = omega (arith, block, first, some) in
    ap (nat_lt z) codes
    ∙ elim (cases_order n q) [
      | inl less ↦ (let prod : (n + 1) * k ≤ q * k = mul-le-mul_right k less in more_end (n * k + (k - 1)) z p ((fc + z) / k) (z % k) k (omega (arith, prod, parts, some)) (omega (arith, top, is, less)))
      | inr other ↦ elim other [
        | inl same ↦ (let prod : n * k ≡ q * k = ap (λ i. i * k) same in same_end (n * k + (k - 1)) z p ((fc + z) / k) (z % k) k (omega (arith, prod, parts, some)) (omega (arith, top, is, same)))
        | inr more ↦ (let prod : (q + 1) * k ≤ n * k = mul-le-mul_right k more in less_end (n * k + (k - 1)) z p ((fc + z) / k) (z % k) k (omega (arith, prod, parts, rest)) (omega (arith, top, is, more)))
      ]
    ]

by_kind : (nullable : Bool) (ends : Ends) (read p : ℕ) → ends.nullable ≡ nullable → read ≤ planes ends → is_legal ends read p ≡ true → is_possible ends read p ≡ true → IsNumber ends read p (number_of ends read p)
by_kind false ends read p plain h legal possible =
    let d = planes ends - read in
    let none : first_code ends ≡ 0 = ap (λ b. cond b (2 ^ width ends) 0) plain in
    let all : planes ends ≡ width ends = ap (λ b. width ends + cond b 1 0) plain ∙ omega arith in
    let same : number_of ends read p ≡ p = omega (arith, least_plain ends read plain) in
    let few : p * 2 ^ d ≤ spread ends = omega (arith, legal_code ends read p legal, none) in
    let from : first_plane ends read ≡ 0 = ap (λ b. min (cond b 1 0) read) plain ∙ omega arith in
    let left : read - first_plane ends read ≡ read = omega (arith, from) in
    record {
      above = omega (arith, none) ∙ ap (λ n. n * 2 ^ d) (sym same);
      wide = block_end p 0 p (2 ^ d) (first_code ends) (spread ends) (pow_pos d) (omega arith) (omega (arith, none)) few ∙ ap (λ n. n * 2 ^ d + cond (is_at_top ends read p) (spread ends % 2 ^ d) (2 ^ d - 1)) (sym same);
      starts = λ z within. ap (λ n. nat_lt (n * 2 ^ d) z) same ∙ block_start p 0 p (2 ^ d) (first_code ends) z (pow_pos d) (omega arith) (omega (arith, none));
      past = λ z within. clipped_end z ((p + 1) * 2 ^ d - 1 - first_code ends) (spread ends) within ∙ block_past p 0 p (2 ^ d) (first_code ends) z (pow_pos d) (omega arith) (omega (arith, none));
      least = at_least (prefix_of ends read (Some 0)) p (possible_row ends read p h legal ∙ possible);
      few = subst (λ n. n * 2 ^ d ≤ spread ends) (sym same) few;
      small = subst (λ n. n < 2 ^ (read - first_plane ends read)) (sym same) (subst (λ i. p < 2 ^ i) (sym left) (few_digits p read d (width ends) (spread ends) (omega (arith, all)) (spread_small ends) few));
      digits = λ j from below. ap (λ n. (n / 2 ^ (read - (j + 1))) % 2 == 1) (sym same);
    }
by_kind true ends zero p nullable h legal possible =
    let d = planes ends - 0 in
    let w = width ends in
    let code : first_code ends ≡ 2 ^ w = ap (λ b. cond b (2 ^ w) 0) nullable in
    let planes_are : planes ends ≡ w + 1 = ap (λ b. w + cond b 1 0) nullable in
    let all : d ≡ suc w = omega (arith, planes_are) in
    let twice : 2 ^ suc w ≡ 2 ^ w * 2 = pow-suc 2 w in
    let whole : 2 ^ d ≡ 2 ^ w * 2 = ap (λ k. 2 ^ k) all ∙ twice in
    let less : p * 2 ^ d < 1 * 2 ^ d = omega (arith, legal_code ends 0 p legal, code, spread_small ends, whole) in
    let one : p < 1 = lt_of_mul-lt-mul_right (2 ^ d) less in
    let none : p ≡ 0 = omega (arith, one) in
    let same : number_of ends 0 p ≡ 0 = omega (arith, none) in
    let top : prefix_of ends 0 (Some (spread ends)) ≡ 0 = first_prefix ends (spread ends) nullable (spread_small ends) in
    let at_top : is_at_top ends 0 p ≡ true = equal_test p (prefix_of ends 0 (Some (spread ends))) (none ∙ sym top) in
    record {
      above = ap (λ n. n * 2 ^ d - first_code ends) none ∙ omega arith ∙ ap (λ n. n * 2 ^ d) (sym same);
      wide = ap (λ i. min ((i + 1) * 2 ^ d - 1 - first_code ends) (spread ends)) none ∙ omega (arith, code, whole, spread_small ends)
          ∙ ap (λ i. 0 * 2 ^ d + i) (sym (mod-eq_of_lt (omega (arith, whole, spread_small ends))))
          ∙ ap (λ b. 0 * 2 ^ d + cond b (spread ends % 2 ^ d) (2 ^ d - 1)) (sym at_top) ∙ ap (λ n. n * 2 ^ d + cond (is_at_top ends 0 p) (spread ends % 2 ^ d) (2 ^ d - 1)) (sym same);
      starts = λ z within.
          let first : prefix_of ends 0 (Some z) ≡ 0 = first_prefix ends z nullable (omega (arith, within, spread_small ends)) in
          let left : z % 2 ^ d ≡ z = mod-eq_of_lt (omega (arith, whole, within, spread_small ends)) in
          same_start (number_of ends 0 p * 2 ^ d) z p (prefix_of ends 0 (Some z)) (z % 2 ^ d) (ap (λ n. n * 2 ^ d + z % 2 ^ d) same ∙ omega (arith, left)) (none ∙ sym first);
      past = λ z within.
          let first : prefix_of ends 0 (Some z) ≡ 0 = first_prefix ends z nullable (omega (arith, within, spread_small ends)) in
          let left : z % 2 ^ d ≡ z = mod-eq_of_lt (omega (arith, whole, within, spread_small ends)) in
          let last : (p + 1) * 2 ^ d - 1 - first_code ends ≡ 2 ^ w - 1 = ap (λ i. (i + 1) * 2 ^ d - 1 - first_code ends) none ∙ omega (arith, code, whole) in
          clipped_end z ((p + 1) * 2 ^ d - 1 - first_code ends) (spread ends) within
          ∙ wide_end ((p + 1) * 2 ^ d - 1 - first_code ends) z p (prefix_of ends 0 (Some z)) (z % 2 ^ d) (2 ^ d) (omega (arith, last, within, spread_small ends)) (none ∙ sym first) (omega (arith, left, whole, within, spread_small ends));
      least = at_least (prefix_of ends 0 (Some 0)) p (possible_row ends 0 p h legal ∙ possible);
      few = subst (λ n. n * 2 ^ d ≤ spread ends) (sym same) (omega arith);
      small = subst (λ n. n < 2 ^ (0 - first_plane ends 0)) (sym same) (pow_pos (0 - first_plane ends 0));
      digits = λ j from below. absurd (omega (arith, below));
    }
by_kind true ends (suc r) p nullable h legal possible =
    let d = planes ends - suc r in
    let w = width ends in
    let code : first_code ends ≡ 2 ^ w = ap (λ b. cond b (2 ^ w) 0) nullable in
    let all : planes ends ≡ w + 1 = ap (λ b. w + cond b 1 0) nullable in
    let next : r + 1 ≡ suc r = omega arith in
    let least : prefix_of ends (suc r) (Some 0) ≡ 2 ^ r = sym (ap (λ k. prefix_of ends k (Some 0)) next) ∙ least_nullable ends r nullable (omega (arith, h)) in
    let parts : w ≡ r + d = omega (arith, all, h) in
    let whole : 2 ^ w ≡ 2 ^ r * 2 ^ d = ap (λ k. 2 ^ k) parts ∙ pow-add 2 r d in
    let up : prefix_of ends (suc r) (Some 0) ≤ p = at_least _ p (possible_row ends (suc r) p h legal ∙ possible) in
    let n = number_of ends (suc r) p in
    let is : p ≡ n + 2 ^ r = omega (arith, least, up) in
    let big : p * 2 ^ d ≡ n * 2 ^ d + 2 ^ r * 2 ^ d = ap (λ k. k * 2 ^ d) is ∙ omega arith in
    let few : n * 2 ^ d ≤ spread ends = omega (arith, legal_code ends (suc r) p legal, code, whole, big) in
    let from : first_plane ends (suc r) ≡ 1 = ap (λ b. min (cond b 1 0) (suc r)) nullable ∙ omega arith in
    let left : suc r - first_plane ends (suc r) ≡ r = omega (arith, from) in
    record {
      above = omega (arith, big, code, whole);
      wide = block_end n (2 ^ r) p (2 ^ d) (first_code ends) (spread ends) (pow_pos d) is (omega (arith, code, whole)) few;
      starts = λ z within. block_start n (2 ^ r) p (2 ^ d) (first_code ends) z (pow_pos d) is (omega (arith, code, whole));
      past = λ z within. clipped_end z ((p + 1) * 2 ^ d - 1 - first_code ends) (spread ends) within ∙ block_past n (2 ^ r) p (2 ^ d) (first_code ends) z (pow_pos d) is (omega (arith, code, whole));
      least = up;
      few = few;
      small = subst (λ i. n < 2 ^ i) (sym left) (few_digits n r d w (spread ends) parts (spread_small ends) few);
      digits = λ j first below. ap (λ k. (k / 2 ^ (suc r - (j + 1))) % 2 == 1) is ∙ digit_behind n r (suc r - (j + 1)) (omega (arith, first, from, below));
    }

pub number_row : (ends : Ends) (read p : ℕ) → read ≤ planes ends → is_legal ends read p ≡ true → is_possible ends read p ≡ true → IsNumber ends read p (number_of ends read p)
number_row ends read p h legal possible = by_kind ends.nullable ends read p refl h legal possible

-- ---- the first digits of a number

pub halved : (n d : ℕ) → n / 2 ^ d ≡ 2 * (n / 2 ^ suc d) + cond ((n / 2 ^ d) % 2 == 1) 1 0
halved n d =
    let x = n / 2 ^ d in
    let half : n / 2 ^ suc d ≡ x / 2 = ap (λ k. n / k) (pow-suc 2 d) ∙ sym (div-div-eq-div-mul n (2 ^ d) 2) in
    let low : cond (x % 2 == 1) 1 0 ≡ x % 2 = lowest_as_number (x % 2) (mod-lt x (omega arith)) in
    omega (arith, half, low)
