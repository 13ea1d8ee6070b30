-- The bits of a word as a byte each, and the digits of 64 rows as sums of these.
use Rattle.std.proofs.Common.{◌≡◌, ℕ, zero, suc, ◌+◌, ◌-◌, ◌*◌, ◌/◌, ◌%◌, ◌^◌, ◌<◌, ◌≤◌, ◌==◌, ◌&&◌, min, nat_eq, inl, inr, cond, Bool, true, false, List, [], ◌∷◌, All, length, map, replicate, take, get_or, refl, ap, sym, ◌∙◌, arith}
use Rattle.std.specs.Int.{bit_at, w8}
use Rattle.std.specs.Int.Bits.{bit_and}
use Rattle.std.specs.Simd.Lanes.{zip2, digits_l, number_l, put_chunk, sel_l, top}
use Rattle.std.proofs.lemmas.Bool.{cases_Bool, cases_eq, eqb-false, eqb-true, true≢false}
use Rattle.std.proofs.lemmas.List.{ext_get_or, get_or-map, get_or-replicate, length-map}
use Rattle.std.proofs.lemmas.Nat.Bits.{and_pow, bit_at-lt, bit_at_cat_low}
use Rattle.std.proofs.lemmas.Nat.{pow-add, pow_pos, shr-shr}
use Rattle.std.proofs.Math.Nat.{pow-succ'}
use Rattle.std.proofs.lemmas.Option.{get_or_from_slice_get}
use Rattle.std.proofs.lemmas.Simd.{get_or-sel_l, get_or-swz_l_below, get_or-zip2, get_or_narrower, length-sel_l, length-swz_l, length-zip2, swz_l, tops_compared}
use mir.Val.{bits, hbits}
use Rattle.std.proofs.Math.Nat.{pow-le-pow_right}
use Rattle.std.proofs.lemmas.List.{length-take}
use Rattle.std.proofs.lemmas.List.Sums.{fold_more}
use Rattle.plane_kernels.specs.Rows.{bits_of}
use Rattle.plane_kernels.proofs.RowLemmas.{get-bits_of, length-bits_of}
use Rattle.query_model.specs.Knowledge.{longer}
use Rattle.known_column.specs.BlockDigits.{digits_after}
use Rattle.known_column.proofs.WordDigits.{fits_after, length-digits_after}

-- the byte of each of 64 rows in a word, and its bit in it
abbrev pub byte_places : List ℕ
byte_places = 0 ∷ 0 ∷ 0 ∷ 0 ∷ 0 ∷ 0 ∷ 0 ∷ 0 ∷ 1 ∷ 1 ∷ 1 ∷ 1 ∷ 1 ∷ 1 ∷ 1 ∷ 1 ∷ 2 ∷ 2 ∷ 2 ∷ 2 ∷ 2 ∷ 2 ∷ 2 ∷ 2 ∷ 3 ∷ 3 ∷ 3 ∷ 3 ∷ 3 ∷ 3 ∷ 3 ∷ 3 ∷ 4 ∷ 4 ∷ 4 ∷ 4 ∷ 4 ∷ 4 ∷ 4 ∷ 4 ∷ 5 ∷ 5 ∷ 5 ∷ 5 ∷ 5 ∷ 5 ∷ 5 ∷ 5 ∷ 6 ∷ 6 ∷ 6 ∷ 6 ∷ 6 ∷ 6 ∷ 6 ∷ 6 ∷ 7 ∷ 7 ∷ 7 ∷ 7 ∷ 7 ∷ 7 ∷ 7 ∷ 7 ∷ []

abbrev eight_bits : List ℕ → List ℕ
eight_bits rest = 1 ∷ 2 ∷ 4 ∷ 8 ∷ 16 ∷ 32 ∷ 64 ∷ 128 ∷ rest

abbrev pub bit_values : List ℕ
bit_values = eight_bits (eight_bits (eight_bits (eight_bits (eight_bits (eight_bits (eight_bits (eight_bits [])))))))

every : (ℕ → Bool) → ℕ → Bool
every test zero = true
every test (suc n) = test n && every test n

both : (a b : Bool) → (a && b) ≡ true → (a ≡ true) × (b ≡ true)
both true b e = (refl, e)
both false b e = absurd (true≢false (sym e))

every_below : (test : ℕ → Bool) (n k : ℕ) → every test n ≡ true → k < n → test k ≡ true
unfolding every
every_below test zero k all h = absurd (omega arith)
every_below test (suc n) k all h = elim (cases_eq k n) [
  | inl here ↦ ap test here ∙ (both (test n) (every test n) all).0
  | inr other ↦ every_below test n k (both (test n) (every test n) all).1 (omega arith)
]

is_placed : ℕ → Bool
is_placed k = get_or byte_places k 0 == k / 8 && get_or bit_values k 0 == 2 ^ (k % 8)

all_placed : every is_placed 64 ≡ true
unfolding every is_placed
all_placed = refl

placed : (k : ℕ) → k < 64 → (get_or byte_places k 0 ≡ k / 8) × (get_or bit_values k 0 ≡ 2 ^ (k % 8))
unfolding is_placed
placed k h = (let here = both _ _ (every_below is_placed 64 k all_placed h) in (eqb-true _ _ here.0, eqb-true _ _ here.1))

bytes_of_bits : (i : ℕ) → 256 ^ i ≡ 2 ^ (8 * i)
bytes_of_bits zero = refl
bytes_of_bits (suc i) = pow-succ' 256 i ∙ ap (λ n. 256 * n) (bytes_of_bits i) ∙ sym (pow-add 2 8 (8 * i)) ∙ ap (λ n. 2 ^ n) (omega arith)

-- a bit of a byte of a number
byte_bit : (n i m : ℕ) → m < 8 → bit_at (n / 256 ^ i % 256) m ≡ bit_at n (8 * i + m)
byte_bit n i m h =
    let x = n / 256 ^ i in
    let parts : x / 256 * 2 ^ 8 + x % 256 ≡ x = omega arith in
    sym (bit_at_cat_low (x / 256) 8 (x % 256) m h) ∙ ap (λ b. bit_at b m) parts ∙ ap (λ b. bit_at (n / b) m) (bytes_of_bits i) ∙ ap (λ b. b % 2) (shr-shr n (8 * i) m)

-- whether a byte keeps its bit where all others are cleared
one_bit : (byte m : ℕ) → cond (bit_and byte (2 ^ m) == 2 ^ m) 1 0 ≡ bit_at byte m
one_bit byte m =
    let two : bit_at byte m < 2 = bit_at-lt byte m in
    let some : 1 ≤ 2 ^ m = pow_pos m in
    let kept = and_pow byte m in
    elim (cases_Bool (bit_and byte (2 ^ m) == 2 ^ m)) [
      | inl t ↦
          (let whole : bit_and byte (2 ^ m) ≡ 2 ^ m = eqb-true _ _ t in
          elim (cases_eq (bit_at byte m) 0) [
            | inl none ↦ (let cleared : bit_and byte (2 ^ m) ≡ 0 = kept ∙ ap (λ b. b * 2 ^ m) none ∙ omega arith in absurd (omega (arith, whole, cleared, some)))
            | inr one ↦ (let is : bit_at byte m ≡ 1 = omega (arith, two, one) in ap (λ b. cond b 1 0) t ∙ sym is)
          ])
      | inr f ↦
          elim (cases_eq (bit_at byte m) 0) [
            | inl none ↦ ap (λ b. cond b 1 0) f ∙ sym none
            | inr one ↦ (let is : bit_at byte m ≡ 1 = omega (arith, two, one) in let whole : bit_and byte (2 ^ m) ≡ 2 ^ m = kept ∙ ap (λ b. b * 2 ^ m) is ∙ omega arith in absurd (eqb-false _ _ f whole))
          ]
    ]

bit_of : (n k : ℕ) → k < 64 → get_or (map (λ bit. cond bit 1 0) (bits_of 64 n)) k 0 ≡ bit_at n k
bit_of n k h =
    let long = length-bits_of 64 n in
    get_or-map (λ bit. cond bit 1 0) (bits_of 64 n) k false 0 (omega (arith, long, h)) ∙ ap (λ bit. cond bit 1 0) (get_or_from_slice_get (bits_of 64 n) k (nat_eq (bit_at n k) 1) false (get-bits_of 64 n k h)) ∙ told (bit_at n k) (bit_at-lt n k)
  where
    told : (b : ℕ) → b < 2 → cond (nat_eq b 1) 1 0 ≡ b
    told zero h = refl
    told (suc zero) h = refl
    told (suc (suc b)) h = absurd (omega arith)

module _ (word : ℕ) (fits : word < 2 ^ 64) where
  abbrev bytes : List ℕ
  bytes = digits_l 256 64 (number_l (2 ^ 64) (replicate 8 word))

  abbrev own : List ℕ
  own = swz_l w8 16 bytes 0 byte_places

  byte_at : (k : ℕ) → k < 64 → get_or own k 0 ≡ word / 256 ^ (k / 8) % 256
  byte_at k h =
      let place = (placed k h).0 in
      let from : 16 * ((0 + k) / 16) + get_or byte_places k 0 ≡ 8 * (2 * (k / 16)) + k / 8 = omega (arith, place) in
      get_or-swz_l_below w8 16 bytes 0 byte_places k h (omega (arith, place, h)) ∙ ap (λ n. get_or bytes n 0) from
      ∙ get_or_narrower (2 ^ 64) 8 256 64 (replicate 8 word) (2 * (k / 16)) (k / 8) refl (fits, (fits, (fits, (fits, (fits, (fits, (fits, (fits, tt)))))))) (omega (arith, h)) (omega (arith, h))
      ∙ ap (λ n. n / 256 ^ (k / 8) % 256) (get_or-replicate 8 (2 * (k / 16)) word 0 (omega (arith, h)))

  abbrev kept : List ℕ
  kept = zip2 bit_and own bit_values

  pub bit_bytes_of : sel_l {A = ℕ} (map (top (hbits w8)) (zip2 (λ a b. cond (a == b) (2 ^ bits w8 - 1) 0) kept bit_values)) (replicate 64 1) (replicate 64 0) ≡ map (λ bit. cond bit 1 0) (bits_of 64 word)
  bit_bytes_of =
      let ones : List ℕ = replicate 64 1 in
      let zeros : List ℕ = replicate 64 0 in
      let same : ℕ → ℕ → Bool = λ a b. a == b in
      let wide : length own ≡ 64 = length-swz_l w8 16 bytes 0 byte_places in
      let masked : length kept ≡ 64 = length-zip2 bit_and own bit_values wide ∙ wide in
      let tests : length (zip2 same kept bit_values) ≡ 64 = length-zip2 same kept bit_values masked ∙ masked in
      let long : length (sel_l (zip2 same kept bit_values) ones zeros) ≡ 64 = length-sel_l (zip2 same kept bit_values) ones zeros tests tests ∙ tests in
      let every_bit = length-bits_of 64 word in
      let bits_long : length {A = ℕ} (map (λ bit. cond bit 1 0) (bits_of 64 word)) ≡ 64 = simp length-map (omega (arith, every_bit)) in
      ap (λ l. sel_l l ones zeros) (tops_compared w8 same kept bit_values) ∙ ext_get_or 0 _ _ (long ∙ sym bits_long) (λ k below.
      let h : k < 64 = omega (arith, below, long) in
      let place : 8 * (k / 8) + k % 8 ≡ k = omega arith in
      get_or-sel_l (zip2 same kept bit_values) ones zeros k 0 (omega (arith, tests, h)) h h
      ∙ ap (λ n. cond (get_or (zip2 same kept bit_values) k false) n (get_or zeros k 0)) (get_or-replicate 64 k 1 0 h)
      ∙ ap (λ n. cond (get_or (zip2 same kept bit_values) k false) 1 n) (get_or-replicate 64 k 0 0 h)
      ∙ ap (λ b. cond b 1 0) (get_or-zip2 same kept bit_values k 0 0 false (omega (arith, masked, h)) h
      ∙ ap (λ n. n == get_or bit_values k 0) (get_or-zip2 bit_and own bit_values k 0 0 0 (omega (arith, wide, h)) h ∙ ap (λ n. bit_and n (get_or bit_values k 0)) (byte_at k h))
      ∙ ap (λ n. bit_and (word / 256 ^ (k / 8) % 256) n == n) (placed k h).1)
      ∙ one_bit (word / 256 ^ (k / 8) % 256) (k % 8) ∙ byte_bit word (k / 8) (k % 8) (omega arith) ∙ ap (bit_at word) place ∙ sym (bit_of word k h))

-- ---- word by word

-- twice each number and a bit, which a byte holds
doubled : (ns : List ℕ) (row : List Bool) → All (λ n. n < 2 ^ 7) ns → length ns ≡ length row →
    zip2 (λ a b. (a + b) % 2 ^ bits w8) (zip2 (λ a b. (a + b) % 2 ^ bits w8) ns ns) (map (λ bit. cond bit 1 0) row) ≡ longer ns row
doubled [] row small same = refl
doubled (n ∷ ns) [] small same = absurd (omega arith)
doubled (n ∷ ns) (b ∷ row) small same =
    let few : n < 128 = small 0 0 (omega arith) in
    let bit : cond b 1 0 < 2 = elim (cases_Bool b) [
      | inl t ↦ rw t (omega arith)
      | inr f ↦ rw f (omega arith)
    ] in
    let here : ((n + n) % 256 + cond b 1 0) % 256 ≡ 2 * n + cond b 1 0 = omega (arith, few, bit) in
    ap (λ m. m ∷ zip2 (λ a b. (a + b) % 256) (zip2 (λ a b. (a + b) % 256) ns ns) (map (λ bit. cond bit 1 0) row)) here
    ∙ ap (λ l. (2 * n + cond b 1 0) ∷ l) (doubled ns row (λ k d below. small (suc k) d (omega arith)) (omega arith))

pub word_further : (words : List ℕ) (j word : ℕ) (sum lanes : List ℕ) → length words ≤ 8 → j < length words → word ≡ get_or words j 0 → lanes ≡ map (λ bit. cond bit 1 0) (bits_of 64 word) →
    sum ≡ digits_after (take j words) (replicate 64 0) → zip2 (λ a b. (a + b) % 2 ^ bits w8) (zip2 (λ a b. (a + b) % 2 ^ bits w8) sum sum) lanes ≡ digits_after (take (j + 1) words) (replicate 64 0)
word_further words j word sum lanes few below is told before =
    let zeros : List ℕ = replicate 64 0 in
    let next : List ℕ → List ℕ → List ℕ = zip2 (λ a b. (a + b) % 2 ^ bits w8) in
    let so_far = digits_after (take j words) zeros in
    let part : length (take j words) ≡ min j (length words) = length-take j words in
    let most : length (take j words) ≤ 7 = omega (arith, part, few, below) in
    let more : 2 ^ length (take j words) ≤ 2 ^ 7 = pow-le-pow_right (omega arith) most in
    let small : All (λ n. n < 2 ^ 7) so_far = (λ k d h. (let fits = fits_after (take j words) k d h in omega (arith, fits, more))) in
    let long : length so_far ≡ 64 = length-digits_after (take j words) zeros refl in
    let wide = length-bits_of 64 word in
    ap (λ l. next (next l l) lanes) before ∙ ap (next (next so_far so_far)) told ∙ doubled so_far (bits_of 64 word) small (omega (arith, long, wide))
    ∙ ap (λ w. longer so_far (bits_of 64 w)) is ∙ sym (fold_more (λ ns w. longer ns (bits_of 64 w)) zeros words j 0 below)

pub put_all : (xs ys : List ℕ) → length xs ≡ length ys → put_chunk 0 xs ys ≡ ys
put_all [] [] same = refl
put_all [] (y ∷ ys) same = absurd (omega arith)
put_all (x ∷ xs) [] same = absurd (omega arith)
put_all (x ∷ xs) (y ∷ ys) same = ap (λ l. y ∷ l) (put_all xs ys (omega arith))
