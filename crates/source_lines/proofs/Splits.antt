-- A line that stands in front of bytes, and what stands behind it.
use Rattle.std.proofs.Common.{◌≡◌, ◌⊎◌, ℕ, zero, suc, ◌<◌, ◌≤◌, true, false, List, [], ◌∷◌, ◌++◌, length, take, get_or, nat_lt, refl, sym, ap, subst, ◌∙◌, inl, inr, arith}
use Rattle.std.proofs.lemmas.Bool.{false≢true}
use Rattle.std.proofs.lemmas.List.{length-take-le}
use Rattle.std.proofs.lemmas.Bool.Decides.{nat_tests}
use Rattle.std.proofs.lemmas.List.Sums.{fails_before_first, passes_at_first, prefix_len-le-length, split_at_first}
use Rattle.source_lines.specs.Lines.{behind_line, front_line, has_line, is_feed, line_length}

below : (a b : ℕ) → nat_lt a b ≡ true → a < b
below a b e = grind (arith, nat_tests)

is_below : (a b : ℕ) → a < b → nat_lt a b ≡ true
is_below a b e = grind (arith, nat_tests)

is_not_below : (a b : ℕ) → b ≤ a → nat_lt a b ≡ false
is_not_below a b e = grind (arith, nat_tests)

is_ten : (a : ℕ) → is_feed a ≡ true → a ≡ 10
is_ten a e = grind (arith, nat_tests)

pub length_within : (bytes : List ℕ) → line_length bytes ≤ length bytes
length_within bytes = prefix_len-le-length _ bytes

-- the line, its line feed, and what stands behind
pub line_split : (bytes : List ℕ) → has_line bytes ≡ true → bytes ≡ front_line bytes ++ (10 ∷ behind_line bytes)
line_split bytes some =
    let there = below (line_length bytes) (length bytes) some in
    let feed = is_ten (get_or bytes (line_length bytes) 0) (passes_at_first is_feed bytes 0 there) in
    split_at_first is_feed bytes 0 there ∙ ap (λ (byte : ℕ). front_line bytes ++ (byte ∷ behind_line bytes)) feed

-- no line feed stands before
pub no_feed : (bytes : List ℕ) → line_length bytes ≡ length bytes → has_line bytes ≡ false
no_feed bytes e = is_not_below (line_length bytes) (length bytes) (omega (arith, e))

-- ---- the line by itself

same_at : (n k : ℕ) (bytes : List ℕ) → k < n → get_or (take n bytes) k 0 ≡ get_or bytes k 0
same_at zero k bytes lt = absurd (omega (arith, lt))
same_at (suc n) k [] lt = refl
same_at (suc n) zero (byte ∷ bytes) lt = refl
same_at (suc n) (suc k) (byte ∷ bytes) lt = same_at n k bytes (omega (arith, lt))

by_place : (bytes : List ℕ) (n k : ℕ) → k ≡ line_length (take n bytes) → length (take n bytes) ≡ n → n ≤ line_length bytes → (k < n → ⊥)
by_place bytes n k e size le lt =
    let there : line_length (take n bytes) < length (take n bytes) = omega (arith, e, size, lt) in
    let feed : is_feed (get_or (take n bytes) (line_length (take n bytes)) 0) ≡ true = passes_at_first is_feed (take n bytes) 0 there in
    let own : is_feed (get_or (take n bytes) k 0) ≡ true = subst (λ (j : ℕ). is_feed (get_or (take n bytes) j 0) ≡ true) (sym e) feed in
    let none : is_feed (get_or bytes k 0) ≡ false = fails_before_first is_feed bytes k 0 (omega (arith, lt, le)) in
    false≢true (sym none ∙ ap is_feed (sym (same_at n k bytes lt)) ∙ own)

cases_lt : (a b : ℕ) → (a < b) ⊎ (b ≤ a)
cases_lt a b = grind arith

-- no line feed stands in the line
pub front_is_line : (bytes : List ℕ) → (has_line (front_line bytes) ≡ false) × (length (front_line bytes) ≡ line_length bytes)
front_is_line bytes =
    let n = line_length bytes in
    let size : length (front_line bytes) ≡ n = length-take-le n bytes (length_within bytes) in
    let most = length_within (front_line bytes) in (
      no_feed (front_line bytes) (elim (cases_lt (line_length (front_line bytes)) n) [
        | inl less ↦ absurd (by_place bytes n (line_length (front_line bytes)) refl size (omega arith) less)
        | inr all ↦ (let same : line_length (front_line bytes) ≡ length (front_line bytes) = omega (arith, all, most, size) in same)
      ]),
      size,
    )
