-- The digits of the numbers of rows, null or not, and those of them that the first planes gave.
use Rattle.std.proofs.Common.{◌≡◌, ℕ, zero, suc, ◌+◌, ◌-◌, ◌*◌, ◌/◌, ◌%◌, ◌^◌, ◌<◌, ◌≤◌, ◌==◌, Bool, true, false, cond, Some, List, [], ◌∷◌, map, ◌⊎◌, inl, inr, refl, ap, sym, subst, ◌∙◌, arith}
use Rattle.std.proofs.Math.Nat.{pow-suc, div-eq_of_lt, div-div-eq-div-mul, div-mul-le_self, add-mul-div_right, lt_of_mul-lt-mul_right, mul-div_cancel, zero-div, div-one}
use Rattle.std.proofs.lemmas.Nat.{pow-add, pow_pos}
use Rattle.daq_table.specs.declared.head.Ends.{Ends}
use Rattle.daq_table.specs.Tables.{code, first_code, planes, spread, width}
use Rattle.query_model.specs.Knowledge.{is_legal, prefix_of}
use Rattle.known_column.specs.Columns.{KnownColumn, digit_of, is_possible, number_of}
use Rattle.aggregates.specs.Selections.{early_number}
use Rattle.known_column.proofs.CodeDigits.{least_plain, least_nullable, spread_small}
use Rattle.known_column.proofs.Joining.{joined_row}
use Rattle.known_column.proofs.Nulls.{legal_code}
use Rattle.aggregates.proofs.NumberRows.{first_plane, number_row}

-- the digits that were read of a number
pub record AreDigits (ends : Ends) (read p n : ℕ) : Type 0 where
  pub few : n * 2 ^ (planes ends - read) ≤ spread ends
  pub small : n < 2 ^ (read - first_plane ends read)
  pub digits : (j : ℕ) → first_plane ends read ≤ j → j < read → digit_of read j p ≡ ((n / 2 ^ (read - (j + 1))) % 2 == 1)

-- those of a null are 0
pub digit_row : (ends : Ends) (read p : ℕ) → read ≤ planes ends → is_legal ends read p ≡ true → AreDigits ends read p (number_of ends read p)
digit_row ends read p h legal = by_test (is_possible ends read p) refl
  where
    by_test : (b : Bool) → is_possible ends read p ≡ b → AreDigits ends read p (number_of ends read p)
    by_test true e = (let n = number_row ends read p h legal e in record { few = n.few; small = n.small; digits = n.digits })
    by_test false e =
        let none : p ≡ 0 = sym (joined_row ends read p h legal) ∙ ap (λ b. cond b (prefix_of ends read (Some 0) + number_of ends read p) 0) e in
        let no_number : number_of ends read p ≡ 0 = omega (arith, none) in
        record {
          few = subst (λ n. n * 2 ^ (planes ends - read) ≤ spread ends) (sym no_number) (omega arith);
          small = subst (λ n. n < 2 ^ (read - first_plane ends read)) (sym no_number) (pow_pos (read - first_plane ends read));
          digits = λ j from below. ap (λ n. (n / 2 ^ (read - (j + 1))) % 2 == 1) (none ∙ sym no_number);
        }

-- ---- the first digits

pub place : (a b : ℕ) → (a ≤ b) ⊎ (b < a)
place zero b = inl (omega arith)
place (suc a) zero = inr (omega arith)
place (suc a) (suc b) = elim (place a b) [
  | inl h ↦ inl (omega (arith, h))
  | inr h ↦ inr (omega (arith, h))
]

-- whole parts that are taken off
less_parts : (p q c : ℕ) → 0 < c → (p - q * c) / c ≡ p / c - q
less_parts p q c some = elim (place (q * c) p) [
  | inl h ↦ (let rest : (p - q * c) + q * c ≡ p = omega (arith, h) in let whole = add-mul-div_right (p - q * c) q some in omega (arith, ap (λ n. n / c) rest, whole))
  | inr h ↦ (let few : p / c < q = lt_of_mul-lt-mul_right c (omega (arith, div-mul-le_self p c, h)) in let none : p - q * c ≡ 0 = omega (arith, h) in ap (λ n. n / c) none ∙ zero-div c ∙ omega (arith, few))
]

no_parts : (p m n c : ℕ) → p < c → p / c - n ≡ (p - m) / c
no_parts p m n c few =
    let none : p / c ≡ 0 = div-eq_of_lt few in
    let same : (p - m) / c ≡ 0 = div-eq_of_lt (omega (arith, few)) in
    omega (arith, none, same)

-- a prefix of a column has no more digits than were read
few_digits : (ends : Ends) (read p : ℕ) → ends.nullable ≡ true → read ≤ planes ends → is_legal ends read p ≡ true → p < 2 ^ read
few_digits ends read p nullable h legal =
    let d = planes ends - read in
    let w = width ends in
    let first : first_code ends ≡ 2 ^ w = ap (λ b. cond b (2 ^ w) 0) nullable in
    let all : planes ends ≡ suc w = ap (λ b. w + cond b 1 0) nullable ∙ omega arith in
    let twice : 2 ^ suc w ≡ 2 ^ w * 2 = pow-suc 2 w in
    let parts : suc w ≡ read + d = omega (arith, all, h) in
    let whole : 2 ^ suc w ≡ 2 ^ read * 2 ^ d = ap (λ k. 2 ^ k) parts ∙ pow-add 2 read d in
    lt_of_mul-lt-mul_right (2 ^ d) (omega (arith, legal_code ends read p legal, first, spread_small ends, twice, whole))

-- the first digits of a row's number are the number that its first digits make
pub early_row : (ends : Ends) (read early p : ℕ) → read ≤ planes ends → early ≤ read → is_legal ends read p ≡ true →
    number_of ends early (p / 2 ^ (read - early)) ≡ number_of ends read p / 2 ^ (read - early)
early_row ends read early p h less legal =
    let k = read - early in
    let d = planes ends - read in
    let more : planes ends - early ≡ d + k = omega (arith, h, less) in
    let first : prefix_of ends early (Some 0) ≡ prefix_of ends read (Some 0) / 2 ^ k =
    ap (λ i. code ends (Some 0) / 2 ^ i) more ∙ ap (λ n. code ends (Some 0) / n) (pow-add 2 d k) ∙ sym (div-div-eq-div-mul (code ends (Some 0)) (2 ^ d) (2 ^ k)) in
    ap (λ m. p / 2 ^ k - m) first ∙ by_kind ends.nullable read early refl h less legal
  where
    by_parts : (m q c : ℕ) → 0 < c → m ≡ q * c → p / c - m / c ≡ (p - m) / c
    by_parts m q c some e =
        let whole : m / c ≡ q = ap (λ n. n / c) e ∙ mul-div_cancel q some in
        ap (λ n. p / c - n) whole ∙ sym (less_parts p q c some) ∙ ap (λ n. (p - n) / c) (sym e)

    by_kind : (nullable : Bool) (read early : ℕ) → ends.nullable ≡ nullable → read ≤ planes ends → early ≤ read → is_legal ends read p ≡ true →
        p / 2 ^ (read - early) - prefix_of ends read (Some 0) / 2 ^ (read - early) ≡ (p - prefix_of ends read (Some 0)) / 2 ^ (read - early)
    by_kind false read early plain h less legal = by_parts (prefix_of ends read (Some 0)) 0 (2 ^ (read - early)) (pow_pos (read - early)) (least_plain ends read plain ∙ omega arith)
    by_kind true zero early nullable h less legal =
        let none : zero - early ≡ 0 = omega arith in
        by_parts (prefix_of ends zero (Some 0)) (prefix_of ends zero (Some 0)) (2 ^ (zero - early)) (pow_pos (zero - early)) (sym (ap (λ k. prefix_of ends zero (Some 0) * 2 ^ k) none ∙ omega arith))
    by_kind true (suc r) zero nullable h less legal =
        let c = 2 ^ (suc r - zero) in
        let all : suc r ≡ suc r - zero = omega arith in
        no_parts p (prefix_of ends (suc r) (Some 0)) (prefix_of ends (suc r) (Some 0) / c) c (subst (λ k. p < 2 ^ k) all (few_digits ends (suc r) p nullable h legal))
    by_kind true (suc r) (suc e) nullable h less legal =
        let next : r + 1 ≡ suc r = omega arith in
        let least : prefix_of ends (suc r) (Some 0) ≡ 2 ^ r = sym (ap (λ k. prefix_of ends k (Some 0)) next) ∙ least_nullable ends r nullable (omega (arith, h)) in
        let parts : r ≡ e + (suc r - suc e) = omega (arith, less) in
        by_parts (prefix_of ends (suc r) (Some 0)) (2 ^ e) (2 ^ (suc r - suc e)) (pow_pos (suc r - suc e)) (least ∙ ap (λ k. 2 ^ k) parts ∙ pow-add 2 e (suc r - suc e))

-- all digits that were read are those of the number
pub all_digits : (column : KnownColumn) (ps : List ℕ) → map (early_number column column.known.read) ps ≡ map (number_of column.ends column.known.read) ps
all_digits column [] = refl
all_digits column (p ∷ ps) =
    let read = column.known.read in
    let none : read - read ≡ 0 = omega arith in
    let same : p / 2 ^ (read - read) ≡ p = ap (λ k. p / 2 ^ k) none ∙ div-one p in
    ap (λ q. number_of column.ends read q ∷ map (early_number column read) ps) same ∙ ap (λ l. number_of column.ends read p ∷ l) (all_digits column ps)
