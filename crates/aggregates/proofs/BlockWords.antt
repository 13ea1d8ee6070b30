-- Candidates among the rows of a block of 512, as the bits of eight words, narrowed digit by digit.
use Rattle.std.proofs.Common.{◌≡◌, ℕ, zero, suc, ◌+◌, ◌-◌, ◌*◌, ◌/◌, ◌%◌, ◌^◌, ◌<◌, ◌≤◌, ◌==◌, ◌↔◌, nat_eq, nat_lt, min, Bool, true, false, not, ◌&&◌, cond, IsTrue, List, [], ◌∷◌, length, map, take, drop, get_or, Option, None, Some, ◌⊎◌, inl, inr, refl, ap, sym, subst, ◌∙◌, arith}
use Rattle.std.specs.Int.{w64, bit_at, bit_not, trailing_zeros}
use Rattle.std.specs.Int.Bits.{bit_and, bit_or}
use Rattle.std.specs.Simd.Lanes.{fold_l, zip2}
use Rattle.std.proofs.Math.ListN.{get_or-eq_default}
use Rattle.std.proofs.Math.Nat.{div-one, div-eq_of_lt, div-mul-le_self, pow-suc}
use Rattle.std.proofs.lemmas.Bool.Decides.{nat_tests}
use Rattle.std.proofs.lemmas.Bool.{false≢true}
use Rattle.std.proofs.lemmas.List.{get_or-drop, get_or-map, get_or-take, length-map}
use Rattle.std.proofs.lemmas.Nat.{le-div, le_or_l, le_or_r, pow_pos}
use Rattle.std.proofs.lemmas.Option.{get_or_from_slice_get}
use Rattle.std.proofs.lemmas.Nat.Bits.{bit_at-lt, bit_at-trailing_zeros, bit_at-zero, bit_at_above, bit_at_and, bit_at_not}
use Rattle.std.proofs.lemmas.Simd.{get_or-zip2}
use Rattle.plane_kernels.specs.Rows.{block_rows, rows_of, IsPadded}
use Rattle.plane_kernels.proofs.BytesLemmas.{below_padded}
use Rattle.plane_kernels.proofs.RowLemmas.{get-rows_of}
use Rattle.known_column.specs.Columns.{KnownColumn, digit_of}
use Rattle.aggregates.specs.declared.extreme_rows.Candidate.{Candidate}
use Rattle.aggregates.specs.declared.extreme_rows.Extreme.{Extreme}
use Rattle.aggregates.specs.declared.extreme_rows.Extreme.TheVariants.{Least, Greatest}
use Rattle.aggregates.specs.ExtremeRows.{has_bit, has_place, is_ahead, is_further, number_at, number_so_far, AreBlockRows, AreZero, IsAsFar, IsBehind, IsBestAmong, IsBestOf, IsExtremeDigit, IsNarrowed, Reaches}
use Rattle.aggregates.specs.Selections.{has_row}
use Rattle.aggregates.proofs.EndSums.{Counts, numbers}
use Rattle.aggregates.proofs.NumberRows.{first_plane, halved}

-- ---- bits of words

min_test : (x y : ℕ) → x < 2 → y < 2 → (min x y == 1) ≡ ((x == 1) && (y == 1))
min_test x y h g = grind (arith, nat_tests)

not_test : (x : ℕ) → x < 2 → (1 - x == 1) ≡ not (x == 1)
not_test x h = grind (arith, nat_tests)

and_bits : (a b i : ℕ) → has_bit (bit_and a b) i ≡ (has_bit a i && has_bit b i)
and_bits a b i = ap (λ k. k == 1) (bit_at_and a b i) ∙ min_test (bit_at a i) (bit_at b i) (bit_at-lt a i) (bit_at-lt b i)

not_bits : (b i : ℕ) → b < 18446744073709551616 → i < 64 → has_bit (bit_not w64 b) i ≡ not (has_bit b i)
not_bits b i small h = ap (λ k. k == 1) (bit_at_not w64 b i small h) ∙ not_test (bit_at b i) (bit_at-lt b i)

no_bits : (a i : ℕ) → a ≡ 0 → has_bit a i ≡ false
no_bits a i e = ap (λ k. has_bit k i) e ∙ ap (λ k. k == 1) (bit_at-zero i)

same_number : (n m : ℕ) → n ≡ m → true ≡ (n == m)
same_number n m e = grind (arith, nat_tests)

equal_numbers : (n m : ℕ) → (n == m) ≡ true → n ≡ m
equal_numbers n m e = grind (arith, nat_tests)

no_test : (x : ℕ) → x ≡ 0 → (x == 1) ≡ false
no_test x e = grind (arith, nat_tests)

one_there : (x : ℕ) → x ≡ 1 → (x == 1) ≡ true
one_there x e = grind (arith, nat_tests)

-- a word that is not 0 has the bit of its lowest 1
pub lowest_there : (a : ℕ) → 0 < a → a < 18446744073709551616 → (trailing_zeros w64 a < 64) × (has_bit a (trailing_zeros w64 a) ≡ true)
lowest_there a some small =
    let t = bit_at-trailing_zeros w64 a some small in
    (t.0, one_there (bit_at a (trailing_zeros w64 a)) t.1)

pub place : (i m : ℕ) → (i < m) ⊎ (m ≤ i)
place i zero = inr (omega arith)
place zero (suc m) = inl (omega arith)
place (suc i) (suc m) = elim (place i m) [
  | inl h ↦ inl (omega (arith, h))
  | inr h ↦ inr (omega (arith, h))
]

-- a word is 0 where none of its bits is 1
no_bit : (a : ℕ) → a < 18446744073709551616 → ((i : ℕ) → i < 64 → has_bit a i ≡ false) → a ≡ 0
no_bit a small none = elim (place 0 a) [
  | inl some ↦ (let t = lowest_there a some small in absurd (false≢true (sym (none (trailing_zeros w64 a) t.0) ∙ t.1)))
  | inr h ↦ omega (arith, h)
]

-- ---- eight words

-- of a list of eight words, each fits
pub record AreEight (words : List ℕ) : Type 0 where
  pub eight : length words ≡ 8
  pub fit : (k : ℕ) → get_or words k 0 < 18446744073709551616

pub no_places : (words : List ℕ) (i : ℕ) → AreZero words → has_place words i ≡ false
no_places words i none = no_bits (get_or words (i / 64) 0) (i % 64) (none (i / 64))

-- no word has a bit exactly where all of them have none together
fold_zero : (a : ℕ) (words : List ℕ) → fold_l bit_or a words ≡ 0 → (a ≡ 0) × AreZero words
fold_zero a [] e = (e, λ k. nothing k)
  where
    nothing : (k : ℕ) → get_or {A = ℕ} [] k 0 ≡ 0
    nothing k = (let past : 0 ≤ k = omega arith in get_or-eq_default [] 0 past)
fold_zero a (w ∷ ws) e =
    let rest = fold_zero (bit_or a w) ws e in
    let left : a ≡ 0 = omega (arith, le_or_l a w, rest.0) in
    let right : w ≡ 0 = omega (arith, le_or_r a w, rest.0) in
    (left, λ k. by_place k right rest.1)
  where
    by_place : (k : ℕ) → w ≡ 0 → AreZero ws → get_or (w ∷ ws) k 0 ≡ 0
    by_place zero none rest = none
    by_place (suc k) none rest = rest k

zero_fold : (words : List ℕ) → AreZero words → fold_l bit_or 0 words ≡ 0
zero_fold [] none = refl
zero_fold (w ∷ ws) none = ap (λ a. fold_l bit_or (bit_or 0 a) ws) (none 0) ∙ zero_fold ws (λ k. none (suc k))

pub empty_words : (words : List ℕ) → IsTrue (nat_eq (fold_l bit_or 0 words) 0) ↔ AreZero words
empty_words words = (λ e. (fold_zero 0 words (equal_numbers (fold_l bit_or 0 words) 0 e)).1, λ none. sym (same_number (fold_l bit_or 0 words) 0 (zero_fold words none)))

-- where all words but the last are 0, the last is not
pub last_word : (words : List ℕ) (k : ℕ) → length words ≡ 8 → 7 ≤ k → ((i : ℕ) → i < k → get_or words i 0 ≡ 0) → ¬ AreZero words → 0 < get_or words k 0
last_word words k eight last none more = elim (place 0 (get_or words k 0)) [
  | inl h ↦ h
  | inr h ↦ absurd (more (λ i. by_place i (omega (arith, h)) (place i k)))
]
  where
    by_place : (i : ℕ) → get_or words k 0 ≡ 0 → (i < k) ⊎ (k ≤ i) → get_or words i 0 ≡ 0
    by_place i zero_last (inl h) = none i h
    by_place i zero_last (inr h) = elim (place k i) [
      | inl g ↦ get_or-eq_default words 0 (omega (arith, g, last, eight))
      | inr g ↦ (let same : i ≡ k = omega (arith, g, h) in ap (λ j. get_or words j 0) same ∙ zero_last)
    ]

-- the bits of words of a block are its rows
block_bit : (rows : List Bool) (block : ℕ) (words : List ℕ) (i : ℕ) → rows_of (block_rows (length rows) block) words ≡ take 512 (drop (512 * block) rows) → length words ≡ 8 → i < 512 → 512 * block + i < length rows →
    has_place words i ≡ get_or rows (512 * block + i) false
block_bit rows block words i is eight small within =
    let n = block_rows (length rows) block in
    sym (get_or_from_slice_get (rows_of n words) i (has_place words i) false (get-rows_of n words i (omega (arith, small, within)) (omega (arith, eight))))
    ∙ ap (λ l. get_or l i false) is ∙ get_or-take 512 (drop (512 * block) rows) i false small ∙ get_or-drop (512 * block) rows i false

pub block_is : (mask : List Bool) (block : ℕ) (words : List ℕ) → rows_of (block_rows (length mask) block) words ≡ take 512 (drop (512 * block) mask) → IsPadded (block_rows (length mask) block) words → length words ≡ 8 → 512 * block < length mask →
    AreBlockRows mask block words
block_is mask block words is padded eight some i small = by_place (place (512 * block + i) (length mask))
  where
    by_place : (512 * block + i < length mask) ⊎ (length mask ≤ 512 * block + i) → has_place words i ≡ has_row mask (512 * block + i)
    by_place (inl h) = block_bit mask block words i is eight small h
    by_place (inr h) =
        let n = block_rows (length mask) block in
        let short = below_padded n words (i / 64) padded (omega (arith, small, eight)) in
        no_test (bit_at (get_or words (i / 64) 0) (i % 64)) (bit_at_above (get_or words (i / 64) 0) (min (n - 64 * (i / 64)) 64) (i % 64) short (omega (arith, h, some)))
        ∙ sym (get_or-eq_default mask false h)

-- the place of the first bit of a word that is not 0
pub place_there : (words : List ℕ) (k : ℕ) → k < 8 → 0 < get_or words k 0 → get_or words k 0 < 18446744073709551616 →
    (64 * k + trailing_zeros w64 (get_or words k 0) < 512) × (has_place words (64 * k + trailing_zeros w64 (get_or words k 0)) ≡ true)
place_there words k few some small =
    let t = lowest_there (get_or words k 0) some small in
    let bit = trailing_zeros w64 (get_or words k 0) in
    let word : (64 * k + bit) / 64 ≡ k = omega (arith, t.0) in
    let rest : (64 * k + bit) % 64 ≡ bit = omega (arith, t.0) in
    (omega (arith, few, t.0), ap (λ m. has_bit (get_or words m 0) ((64 * k + bit) % 64)) word ∙ ap (has_bit (get_or words k 0)) rest ∙ t.1)

-- ---- one digit

abbrev pub ones_of : List ℕ → List ℕ → List ℕ
ones_of old digits = zip2 bit_and old digits

abbrev pub zeros_of : List ℕ → List ℕ → List ℕ
zeros_of old digits = zip2 bit_and old (map (bit_not w64) digits)

-- where no candidate has the other digit
other_digit : (words : List ℕ) (i : ℕ) (o d : Bool) → AreZero words → has_place words i ≡ (o && d) → o ≡ true → d ≡ false
other_digit words i true d none is e = sym is ∙ no_places words i none
other_digit words i false d none is e = absurd (false≢true e)

opposite : (d : Bool) → not d ≡ false → d ≡ true
opposite true e = refl
opposite false e = sym e

no_word : (o d : ℕ) → o < 18446744073709551616 → d < 18446744073709551616 → bit_and o (bit_not w64 d) ≡ 0 → bit_and o d ≡ 0 → o ≡ 0
no_word o d small small_digits no_zeros no_ones = no_bit o small (λ i h. neither (has_bit o i) (has_bit d i) (sym (and_bits o d i) ∙ no_bits (bit_and o d) i no_ones)
    (sym (and_bits o (bit_not w64 d) i ∙ ap (λ b. has_bit o i && b) (not_bits d i small_digits h)) ∙ no_bits (bit_and o (bit_not w64 d)) i no_zeros))
  where
    neither : (o d : Bool) → (o && d) ≡ false → (o && not d) ≡ false → o ≡ false
    neither false d e f = refl
    neither true true e f = e
    neither true false e f = f

at_most_one : (b : Bool) → cond {A = ℕ} b 1 0 ≤ 1
at_most_one true = omega arith
at_most_one false = omega arith

module _ (extreme : Extreme) (old digits : List ℕ) (olds : AreEight old) (news : AreEight digits) (more : ¬ AreZero old) where
  one_word : (k : ℕ) → k < 8 → get_or (ones_of old digits) k 0 ≡ bit_and (get_or old k 0) (get_or digits k 0)
  one_word k h = get_or-zip2 bit_and old digits k 0 0 0 (omega (arith, h, olds.eight)) (omega (arith, h, news.eight))

  zero_word : (k : ℕ) → k < 8 → get_or (zeros_of old digits) k 0 ≡ bit_and (get_or old k 0) (bit_not w64 (get_or digits k 0))
  zero_word k h =
      let long = length-map digits (bit_not w64) in
      get_or-zip2 bit_and old (map (bit_not w64) digits) k 0 0 0 (omega (arith, h, olds.eight)) (omega (arith, h, news.eight, long))
      ∙ ap (bit_and (get_or old k 0)) (get_or-map (bit_not w64) digits k 0 0 (omega (arith, h, news.eight)))

  one_places : (i : ℕ) → i < 512 → has_place (ones_of old digits) i ≡ (has_place old i && has_place digits i)
  one_places i h = ap (λ w. has_bit w (i % 64)) (one_word (i / 64) (omega (arith, h))) ∙ and_bits (get_or old (i / 64) 0) (get_or digits (i / 64) 0) (i % 64)

  zero_places : (i : ℕ) → i < 512 → has_place (zeros_of old digits) i ≡ (has_place old i && not (has_place digits i))
  zero_places i h =
      ap (λ w. has_bit w (i % 64)) (zero_word (i / 64) (omega (arith, h))) ∙ and_bits (get_or old (i / 64) 0) (bit_not w64 (get_or digits (i / 64) 0)) (i % 64)
      ∙ ap (λ b. has_place old i && b) (not_bits (get_or digits (i / 64) 0) (i % 64) (news.fit (i / 64)) (omega arith))

  -- all candidates have the digit 1, or all have the digit 0
  all_ones : AreZero (zeros_of old digits) → (i : ℕ) → i < 512 → has_place old i ≡ true → has_place digits i ≡ true
  all_ones none i h e = opposite (has_place digits i) (other_digit (zeros_of old digits) i (has_place old i) (not (has_place digits i)) none (zero_places i h) e)

  all_zeros : AreZero (ones_of old digits) → (i : ℕ) → i < 512 → has_place old i ≡ true → has_place digits i ≡ false
  all_zeros none i h e = other_digit (ones_of old digits) i (has_place old i) (has_place digits i) none (one_places i h) e

  none_left : AreZero (zeros_of old digits) → AreZero (ones_of old digits) → AreZero old
  none_left no_zeros no_ones k = by_place (place k 8)
    where
      by_place : (k < 8) ⊎ (8 ≤ k) → get_or old k 0 ≡ 0
      by_place (inl h) = no_word (get_or old k 0) (get_or digits k 0) (olds.fit k) (news.fit k) (sym (zero_word k h) ∙ no_zeros k) (sym (one_word k h) ∙ no_ones k)
      by_place (inr h) = get_or-eq_default old 0 (omega (arith, h, olds.eight))

  one_of : (b : Bool) → b ≡ true → 1 ≤ cond {A = ℕ} b 1 0
  one_of b e = subst (λ b. 1 ≤ cond {A = ℕ} b 1 0) (sym e) (omega arith)

  none_of : (b : Bool) → b ≡ false → cond {A = ℕ} b 1 0 ≤ 0
  none_of b e = subst (λ b. cond {A = ℕ} b 1 0 ≤ 0) (sym e) (omega arith)

  pub narrowed : (digit : Bool) → IsExtremeDigit extreme (zeros_of old digits) (ones_of old digits) digit → IsNarrowed extreme old digits (cond digit (ones_of old digits) (zeros_of old digits)) digit
  narrowed digit is = by_digit extreme digit is
    where
      by_digit : (extreme : Extreme) (digit : Bool) → IsExtremeDigit extreme (zeros_of old digits) (ones_of old digits) digit →
          IsNarrowed extreme old digits (cond digit (ones_of old digits) (zeros_of old digits)) digit
      by_digit Least true is = record {
        some = λ none. more (none_left (is.0 refl) none);
        kept = one_places;
        furthest = λ i h has. one_of (has_place digits i) (all_ones (is.0 refl) i h has);
      }
      by_digit Least false is = record {
        some = λ none. false≢true (is.1 none);
        kept = zero_places;
        furthest = λ i h has. omega arith;
      }
      by_digit Greatest true is = record {
        some = λ none. false≢true (sym (is.1 none));
        kept = one_places;
        furthest = λ i h has. at_most_one (has_place digits i);
      }
      by_digit Greatest false is = record {
        some = λ none. more (none_left none (is.0 refl));
        kept = zero_places;
        furthest = λ i h has. none_of (has_place digits i) (all_zeros (is.0 refl) i h has);
      }

-- ---- the digits of the numbers of a block's rows

-- the first digits of a row's number, without so many at the end
abbrev pub short_number : KnownColumn → ℕ → ℕ → ℕ
short_number column k row = number_at column row / 2 ^ k

-- the candidates are those rows of the mask in the block whose first digits are the extreme ones
pub record AreLeading (extreme : Extreme) (column : KnownColumn) (mask : List Bool) (block k digits : ℕ) (candidates : List ℕ) (number : ℕ) : Type 0 where
  pub some : ¬ AreZero candidates
  pub level : (i : ℕ) → i < 512 → has_place candidates i ≡ (has_row mask (512 * block + i) && (short_number column k (512 * block + i) == number))
  pub furthest : (i : ℕ) → i < 512 → has_row mask (512 * block + i) ≡ true → IsAsFar extreme number (short_number column k (512 * block + i))
  pub small : number < 2 ^ digits

pub row_within : (mask : List Bool) (r : ℕ) → has_row mask r ≡ true → r < length mask
row_within mask r has = by_place (place r (length mask))
  where
    by_place : (r < length mask) ⊎ (length mask ≤ r) → r < length mask
    by_place (inl h) = h
    by_place (inr h) = absurd (false≢true (sym (get_or-eq_default mask false h) ∙ has))

-- before any digit each number is 0
first_number : (column : KnownColumn) (mask : List Bool) (k r : ℕ) → Counts column mask → k ≡ column.known.read - first_plane column.ends column.known.read → has_row mask r ≡ true → short_number column k r ≡ 0
first_number column mask k r h is has =
    let below : r < length column.known.prefixes = omega (arith, row_within mask r has, h.rows) in
    div-eq_of_lt (subst (λ i. number_at column r < 2 ^ i) (sym is) (numbers column mask h r below has).small)

-- and all rows of the mask lead
pub leading_first : (extreme : Extreme) (column : KnownColumn) (mask : List Bool) (block k : ℕ) (words : List ℕ) → Counts column mask → k ≡ column.known.read - first_plane column.ends column.known.read →
    AreBlockRows mask block words → ¬ AreZero words → (digits : ℕ) → AreLeading extreme column mask block k digits words 0
leading_first extreme column mask block k words h is rows some digits = record {
  some = some;
  level = λ i small. rows i small ∙ by_row (has_row mask (512 * block + i)) (short_number column k (512 * block + i)) (λ has. first_number column mask k (512 * block + i) h is has);
  furthest = λ i small has. as_far extreme (short_number column k (512 * block + i)) (first_number column mask k (512 * block + i) h is has);
  small = pow_pos digits;
}
  where
    by_row : (o : Bool) (n : ℕ) → (o ≡ true → n ≡ 0) → o ≡ (o && (n == 0))
    by_row true n e = same_number n 0 (e refl)
    by_row false n e = refl

    as_far : (extreme : Extreme) (n : ℕ) → n ≡ 0 → IsAsFar extreme 0 n
    as_far Least n e = omega arith
    as_far Greatest n e = omega (arith, e)

-- a row's next digit
digit_further : (column : KnownColumn) (mask plane : List Bool) (block j : ℕ) (words : List ℕ) (i : ℕ) → Counts column mask → first_plane column.ends column.known.read ≤ j → j < column.known.read →
    plane ≡ map (digit_of column.known.read j) column.known.prefixes → rows_of (block_rows (length plane) block) words ≡ take 512 (drop (512 * block) plane) → length words ≡ 8 → i < 512 → has_row mask (512 * block + i) ≡ true →
    short_number column (column.known.read - (j + 1)) (512 * block + i) ≡ 2 * short_number column (column.known.read - j) (512 * block + i) + cond (has_place words i) 1 0
digit_further column mask plane block j words i h from below plane_is words_are eight small has =
    let read = column.known.read in
    let ps = column.known.prefixes in
    let r = 512 * block + i in
    let within : r < length ps = omega (arith, row_within mask r has, h.rows) in
    let long : length plane ≡ length ps = ap length plane_is ∙ length-map ps (digit_of read j) in
    let n = number_at column r in
    let next : suc (read - (j + 1)) ≡ read - j = omega (arith, below) in
    let bit : has_place words i ≡ ((n / 2 ^ (read - (j + 1))) % 2 == 1) =
    block_bit plane block words i words_are eight small (omega (arith, within, long)) ∙ ap (λ l. get_or l r false) plane_is ∙ get_or-map (digit_of read j) ps r 0 false within ∙ (numbers column mask h r within has).digits j from below in
    halved n (read - (j + 1)) ∙ ap (λ e. 2 * (n / 2 ^ e) + cond ((n / 2 ^ (read - (j + 1))) % 2 == 1) 1 0) next ∙ ap (λ b. 2 * (n / 2 ^ (read - j)) + cond b 1 0) (sym bit)

-- the candidates that have a digit are those whose longer number is the longer number that leads
level_further : (o digit d : Bool) (n number m : ℕ) → (o ≡ true → m ≡ 2 * n + cond d 1 0) → ((o && (n == number)) && cond digit d (not d)) ≡ (o && (m == 2 * number + cond digit 1 0))
level_further false digit d n number m e = refl
level_further true true true n number m e = (let is = e refl in grind (arith, nat_tests))
level_further true true false n number m e = (let is = e refl in grind (arith, nat_tests))
level_further true false true n number m e = (let is = e refl in grind (arith, nat_tests))
level_further true false false n number m e = (let is = e refl in grind (arith, nat_tests))

order : (n m : ℕ) → n ≤ m → (n ≡ m) ⊎ (n + 1 ≤ m)
order n m h = by_test (n == m) refl
  where
    by_test : (b : Bool) → (n == m) ≡ b → (n ≡ m) ⊎ (n + 1 ≤ m)
    by_test true e = inl (equal_numbers n m e)
    by_test false e = inr (grind (arith, nat_tests))

far_further : (extreme : Extreme) (digit d : Bool) (n number m : ℕ) → m ≡ 2 * n + cond d 1 0 → IsAsFar extreme number n → (n ≡ number → IsAsFar extreme (cond digit 1 0) (cond d 1 0)) → IsAsFar extreme (2 * number + cond digit 1 0) m
far_further Least digit d n number m is far same =
    elim (order number n far) [
      | inl e ↦ (let last = same (sym e) in omega (arith, is, e, last))
      | inr more ↦ omega (arith, is, more, at_most_one digit)
    ]
far_further Greatest digit d n number m is far same =
    elim (order n number far) [
      | inl e ↦ (let last = same e in omega (arith, is, e, last))
      | inr more ↦ omega (arith, is, more, at_most_one d)
    ]

-- one digit more
pub leading_further : (extreme : Extreme) (column : KnownColumn) (mask plane : List Bool) (block j : ℕ) (words old new : List ℕ) (number digits : ℕ) (digit : Bool) → Counts column mask → first_plane column.ends column.known.read ≤ j → j < column.known.read →
    plane ≡ map (digit_of column.known.read j) column.known.prefixes → rows_of (block_rows (length plane) block) words ≡ take 512 (drop (512 * block) plane) → length words ≡ 8 →
    AreLeading extreme column mask block (column.known.read - j) digits old number → IsNarrowed extreme old words new digit →
    AreLeading extreme column mask block (column.known.read - (j + 1)) (suc digits) new (2 * number + cond digit 1 0)
leading_further extreme column mask plane block j words old new number digits digit h from below plane_is words_are eight lead step =
    let read = column.known.read in
    let k = read - (j + 1) in
    let longer : (i : ℕ) → i < 512 → has_row mask (512 * block + i) ≡ true → short_number column k (512 * block + i) ≡ 2 * short_number column (read - j) (512 * block + i) + cond (has_place words i) 1 0 =
    λ i small has. digit_further column mask plane block j words i h from below plane_is words_are eight small has in
    record {
      some = step.some;
      level = λ i small. step.kept i small ∙ ap (λ b. b && cond digit (has_place words i) (not (has_place words i))) (lead.level i small)
          ∙ level_further (has_row mask (512 * block + i)) digit (has_place words i) (short_number column (read - j) (512 * block + i)) number (short_number column k (512 * block + i)) (longer i small);
      furthest = λ i small has. far_further extreme digit (has_place words i) (short_number column (read - j) (512 * block + i)) number (short_number column k (512 * block + i)) (longer i small has) (lead.furthest i small has)
          (λ same. step.furthest i small (lead.level i small ∙ ap (λ b. b && (short_number column (read - j) (512 * block + i) == number)) has ∙ sym (same_number (short_number column (read - j) (512 * block + i)) number same)));
      small = (let twice = pow-suc 2 digits in omega (arith, twice, lead.small, at_most_one digit));
    }

-- after all digits, the row of a candidate
pub leading_last : (extreme : Extreme) (column : KnownColumn) (mask : List Bool) (block k digits : ℕ) (candidates : List ℕ) (number i : ℕ) → k ≡ 0 → AreLeading extreme column mask block k digits candidates number → i < 512 → has_place candidates i ≡ true →
    IsBestOf extreme column mask (512 * block) (512 * block + 512) (record { row = 512 * block + i; number = number })
leading_last extreme column mask block k digits candidates number i none lead small has =
    let whole : (r : ℕ) → short_number column k r ≡ number_at column r = λ r. ap (λ e. number_at column r / 2 ^ e) none ∙ div-one (number_at column r) in
    let both : (has_row mask (512 * block + i) && (short_number column k (512 * block + i) == number)) ≡ true = sym (lead.level i small) ∙ has in
    record {
      has = first_of (has_row mask (512 * block + i)) _ both;
      number = sym (sym (whole (512 * block + i)) ∙ equal_numbers _ number (second_of (has_row mask (512 * block + i)) _ both));
      furthest = λ r from below has.
          let place : 512 * block + (r - 512 * block) ≡ r = omega (arith, from) in
          subst (IsAsFar extreme number) (whole (512 * block + (r - 512 * block)) ∙ ap (number_at column) place) (lead.furthest (r - 512 * block) (omega (arith, from, below)) (ap (has_row mask) place ∙ has));
    }
  where
    first_of : (a b : Bool) → (a && b) ≡ true → a ≡ true
    first_of true b e = refl
    first_of false b e = e

    second_of : (a b : Bool) → (a && b) ≡ true → b ≡ true
    second_of true b e = e
    second_of false b e = absurd (false≢true e)

-- ---- the best so far

-- a block without rows
pub empty_block : (mask : List Bool) (block : ℕ) (words : List ℕ) → AreBlockRows mask block words → AreZero words → (r : ℕ) → 512 * block ≤ r → r < 512 * block + 512 → has_row mask r ≡ false
empty_block mask block words rows none r from below =
    let at : 512 * block + (r - 512 * block) ≡ r = omega (arith, from) in
    sym (ap (has_row mask) at) ∙ sym (rows (r - 512 * block) (omega (arith, from, below))) ∙ no_places words (r - 512 * block) none

-- before any digit the best so far is not ahead
pub not_ahead_first : (extreme : Extreme) (column : KnownColumn) (mask : List Bool) (to k : ℕ) (best : Option Candidate) → Counts column mask → k ≡ column.known.read - first_plane column.ends column.known.read →
    IsBestAmong extreme column mask 0 to best → is_ahead extreme best 0 k ≡ false
not_ahead_first extreme column mask to k None h is best = refl
not_ahead_first extreme column mask to k (Some b) h is best = by_extreme extreme (b.number / 2 ^ k) (ap (λ n. n / 2 ^ k) best.number ∙ first_number column mask k b.row h is best.has)
  where
    by_extreme : (extreme : Extreme) (n : ℕ) → n ≡ 0 → is_further extreme n 0 ≡ false
    by_extreme Least n e = grind (arith, nat_tests)
    by_extreme Greatest n e = grind (arith, nat_tests)

less_test : (x y : ℕ) → x < y → nat_lt x y ≡ true
less_test x y h = grind (arith, nat_tests)

test_less : (x y : ℕ) → nat_lt x y ≡ true → x < y
test_less x y e = grind (arith, nat_tests)

test_not_less : (x y : ℕ) → nat_lt x y ≡ false → y ≤ x
test_not_less x y e = grind (arith, nat_tests)

-- a number whose first digits lie further out lies further out
pub whole_further : (extreme : Extreme) (b n number k : ℕ) → is_further extreme (b / 2 ^ k) number ≡ true → IsAsFar extreme number (n / 2 ^ k) → is_further extreme b n ≡ true
whole_further extreme b n number k ahead far = by_extreme extreme ahead far
  where
    short : (x y : ℕ) → x ≤ y → x / 2 ^ k ≤ y / 2 ^ k
    short x y h = (let part = div-mul-le_self x (2 ^ k) in le-div (x / 2 ^ k) y (2 ^ k) (pow_pos k) (omega (arith, part, h)))

    by_extreme : (extreme : Extreme) → is_further extreme (b / 2 ^ k) number ≡ true → IsAsFar extreme number (n / 2 ^ k) → is_further extreme b n ≡ true
    by_extreme Least ahead far = elim (place b n) [
      | inl h ↦ less_test b n h
      | inr h ↦ absurd (omega (arith, test_less _ _ ahead, far, short n b h))
    ]
    by_extreme Greatest ahead far = elim (place n b) [
      | inl h ↦ less_test n b h
      | inr h ↦ absurd (omega (arith, test_less _ _ ahead, far, short b n h))
    ]

-- a block whose rows fall behind
pub block_behind : (extreme : Extreme) (column : KnownColumn) (mask : List Bool) (block k digits : ℕ) (candidates : List ℕ) (number : ℕ) (best : Option Candidate) → AreLeading extreme column mask block k digits candidates number →
    is_ahead extreme best number k ≡ true → (r : ℕ) → 512 * block ≤ r → r < 512 * block + 512 → has_row mask r ≡ true → IsBehind extreme (number_so_far best) (number_at column r)
block_behind extreme column mask block k digits candidates number None lead ahead r from below has = absurd (false≢true ahead)
block_behind extreme column mask block k digits candidates number (Some b) lead ahead r from below has =
    let at : 512 * block + (r - 512 * block) ≡ r = omega (arith, from) in
    let far = lead.furthest (r - 512 * block) (omega (arith, from, below)) (ap (has_row mask) at ∙ has) in
    whole_further extreme b.number (number_at column r) number k ahead (subst (λ r. IsAsFar extreme number (short_number column k r)) at far)

-- ---- numbers that lie as far out, and further

pub far_itself : (extreme : Extreme) (a : ℕ) → IsAsFar extreme a a
far_itself Least a = omega arith
far_itself Greatest a = omega arith

pub far_onward : (extreme : Extreme) (a b c : ℕ) → IsAsFar extreme a b → IsAsFar extreme b c → IsAsFar extreme a c
far_onward Least a b c f g = omega (arith, f, g)
far_onward Greatest a b c f g = omega (arith, f, g)

pub further_is_far : (extreme : Extreme) (a b : ℕ) → is_further extreme a b ≡ true → IsAsFar extreme a b
further_is_far Least a b e = (let less = test_less a b e in omega (arith, less))
further_is_far Greatest a b e = (let less = test_less b a e in omega (arith, less))

pub no_further : (extreme : Extreme) (a b : ℕ) → is_further extreme a b ≡ false → IsAsFar extreme b a
no_further Least a b e = test_not_less a b e
no_further Greatest a b e = test_not_less b a e

pub further_onward : (extreme : Extreme) (a b c : ℕ) → IsAsFar extreme a b → is_further extreme b c ≡ true → is_further extreme a c ≡ true
further_onward Least a b c far e = (let less = test_less b c e in less_test a c (omega (arith, far, less)))
further_onward Greatest a b c far e = (let less = test_less c b e in less_test c a (omega (arith, far, less)))

-- ---- the rows before a block and those of the block

both_parts : (extreme : Extreme) (column : KnownColumn) (mask : List Bool) (block number : ℕ) → ((r : ℕ) → r < 512 * block → has_row mask r ≡ true → IsAsFar extreme number (number_at column r)) →
    ((r : ℕ) → 512 * block ≤ r → r < 512 * block + 512 → has_row mask r ≡ true → IsAsFar extreme number (number_at column r)) →
    (r : ℕ) → 0 ≤ r → r < 512 * block + 512 → has_row mask r ≡ true → IsAsFar extreme number (number_at column r)
both_parts extreme column mask block number earlier later r from below has = by_place (place r (512 * block))
  where
    by_place : (r < 512 * block) ⊎ (512 * block ≤ r) → IsAsFar extreme number (number_at column r)
    by_place (inl h) = earlier r h has
    by_place (inr h) = later r h below has

no_true : (b : Bool) → (b ≡ true → ⊥) → b ≡ false
no_true true none = absurd (none refl)
no_true false none = refl

-- a block whose rows lie behind the best
pub best_stays : (extreme : Extreme) (column : KnownColumn) (mask : List Bool) (block : ℕ) (best : Option Candidate) → ((r : ℕ) → 512 * block ≤ r → r < 512 * block + 512 → has_row mask r ≡ true → IsBehind extreme (number_so_far best) (number_at column r)) →
    IsBestAmong extreme column mask 0 (512 * block) best → IsBestAmong extreme column mask 0 (512 * block + 512) best
best_stays extreme column mask block None behind is = λ r from below. elim (place r (512 * block)) [
  | inl h ↦ is r from h
  | inr h ↦ no_true (has_row mask r) (behind r h below)
]
best_stays extreme column mask block (Some b) behind is = record {
  has = is.has;
  number = is.number;
  furthest = both_parts extreme column mask block b.number (λ r below has. is.furthest r (omega arith) below has)
      (λ r from below has. further_is_far extreme b.number (number_at column r) (behind r from below has));
}

-- the better one of the best and of that of the block
pub best_further : (extreme : Extreme) (column : KnownColumn) (mask : List Bool) (block : ℕ) (best : Option Candidate) (found new : Candidate) → (new ≡ found) ⊎ (Some new ≡ best) → IsAsFar extreme new.number found.number →
    Reaches extreme (Some new.number) (number_so_far best) → IsBestAmong extreme column mask 0 (512 * block) best → IsBestOf extreme column mask (512 * block) (512 * block + 512) found →
    IsBestAmong extreme column mask 0 (512 * block + 512) (Some new)
best_further extreme column mask block best found new one far reaches is of =
    let row = by_one one in
    record {
      has = row.0;
      number = row.1;
      furthest = both_parts extreme column mask block new.number (by_best best reaches is) (λ r from below has. far_onward extreme new.number found.number (number_at column r) far (of.furthest r from below has));
    }
  where
    IsRow : Candidate → Type 0
    IsRow c = (has_row mask c.row ≡ true) × (c.number ≡ number_at column c.row)

    of_best : (best : Option Candidate) → IsBestAmong extreme column mask 0 (512 * block) best → Some new ≡ best → IsRow new
    of_best None is e = cc
    of_best (Some b) is e = (let same : new ≡ b = cc in subst IsRow (sym same) (is.has, is.number))

    by_one : (new ≡ found) ⊎ (Some new ≡ best) → IsRow new
    by_one (inl e) = subst IsRow (sym e) (of.has, of.number)
    by_one (inr e) = of_best best is e

    by_best : (best : Option Candidate) → Reaches extreme (Some new.number) (number_so_far best) → IsBestAmong extreme column mask 0 (512 * block) best → (r : ℕ) → r < 512 * block → has_row mask r ≡ true → IsAsFar extreme new.number (number_at column r)
    by_best None reaches is r below has = absurd (false≢true (sym (is r (omega arith) below) ∙ has))
    by_best (Some b) reaches is r below has = far_onward extreme new.number b.number (number_at column r) reaches (is.furthest r (omega arith) below has)
