-- The digits of bytes of cells are digits of the cells.
use Rattle.std.proofs.Common.{◌≡◌, ℕ, zero, suc, ◌+◌, ◌-◌, ◌*◌, ◌/◌, ◌%◌, ◌^◌, ◌<◌, ◌≤◌, ◌==◌, false, not, cond, nat_eq, eqb, List, [], ◌∷◌, ◌++◌, length, get_or, map, replicate, take, drop, sym, refl, ap, ◌∙◌, arith, set, append_assoc, append-nil, length-append, length-drop, w8, Fits}
use Rattle.std.proofs.Math.Nat.{mod-lt, mod-eq_of_lt, div-div-eq-div-mul}
use Rattle.std.proofs.Math.Pow.{pow-lt}
use Rattle.std.proofs.lemmas.Bool.{eq-eqb, ne_eqb}
use Rattle.std.proofs.lemmas.List.{drop-replicate, length-map, length-take-le, take-map, drop-map, drop-drop, take_all, drop_all, drop_more, take_more, set_at}
use Rattle.std.proofs.lemmas.List.FromFn.{get_or-map-range_with_len}
use Rattle.std.proofs.lemmas.Nat.{and_mask, pow-add, pow_pos}
use Rattle.std.proofs.lemmas.Nat.Bits.{and_pow}
use Rattle.std.proofs.lemmas.Simd.{bitmask_splat, length-replicate, map-map, zip2_splat}
use Rattle.std.specs.Int.Bits.{bit_and}
use Rattle.std.specs.List.{range_with_len}
use Rattle.std.specs.Simd.Lanes.{Each1, mask_l, top, zip2}
use Rattle.plane_kernels.specs.Rows.{digit_at}
use Rattle.plane_kernels.specs.Words.{packed}
use Rattle.query_model.proofs.Blocks.{zero_quotient}
use Rattle.plane_file.specs.ByteDigits.{byte_digits, byte_of, digit_blocks, words_at}

-- the lowest eight digits of a number
low_byte : (x : ℕ) → bit_and x 255 ≡ x % 256
low_byte x = and_mask x 8

low_bytes : (xs : List ℕ) → map (λ x. bit_and x 255) xs ≡ map (λ x. x % 256) xs
low_bytes [] = refl
low_bytes (x ∷ xs) = ap (λ n. n ∷ map (λ y. bit_and y 255) xs) (low_byte x) ∙ ap (λ l. x % 256 ∷ l) (low_bytes xs)

-- bytes cut out of lanes keep their value as they are made narrow
pub fits_bytes : (xs : List ℕ) (n : ℕ) → Each1 (Fits w8) (zip2 bit_and xs (replicate n 255))
fits_bytes [] n = tt
fits_bytes (x ∷ xs) zero = tt
fits_bytes (x ∷ xs) (suc n) = (let small : x % 256 < 256 = mod-lt x (omega arith) in record { fits = omega (arith, low_byte x, small) }, fits_bytes xs n)

narrow : (f : ℕ → ℕ) → ((x : ℕ) → x < 256 → f x ≡ x) → (xs : List ℕ) → map f (map (λ x. x % 256) xs) ≡ map (λ x. x % 256) xs
narrow f same [] = refl
narrow f same (x ∷ xs) =
    ap (λ y. y ∷ map f (map (λ z. z % 256) xs)) (same (x % 256) (mod-lt x (omega arith))) ∙ ap (λ l. x % 256 ∷ l) (narrow f same xs)

pub bytes_of_lanes : (f : ℕ → ℕ) → ((x : ℕ) → x < 256 → f x ≡ x) → (xs : List ℕ) (byte shift : ℕ) → length xs ≡ 64 → shift ≡ 8 * byte
    → map f (zip2 bit_and (zip2 (λ a b. a / 2 ^ b) xs (replicate 64 shift)) (replicate 64 255)) ≡ map (byte_of byte) xs
bytes_of_lanes f same xs byte shift long e =
    let shifted : zip2 (λ a b. a / 2 ^ b) xs (replicate 64 shift) ≡ map (λ x. x / 2 ^ (8 * byte)) xs = zip2_splat (λ a b. a / 2 ^ b) xs 64 shift long ∙ ap (λ s. map (λ x. x / 2 ^ s) xs) e in
    let lanes : zip2 bit_and (zip2 (λ a b. a / 2 ^ b) xs (replicate 64 shift)) (replicate 64 255) ≡ map (λ x. x % 256) (map (λ x. x / 2 ^ (8 * byte)) xs) =
    ap (λ l. zip2 bit_and l (replicate 64 255)) shifted
    ∙ zip2_splat bit_and (map (λ x. x / 2 ^ (8 * byte)) xs) 64 255 (length-map xs (λ x. x / 2 ^ (8 * byte)) ∙ long)
    ∙ low_bytes (map (λ x. x / 2 ^ (8 * byte)) xs) in
    ap (map f) lanes ∙ narrow f same (map (λ x. x / 2 ^ (8 * byte)) xs) ∙ map-map (λ x. x % 256) (λ x. x / 2 ^ (8 * byte)) xs

-- a digit that is compared with 0
flag : (b p : ℕ) → b < 2 → 0 < p → not (eqb (b * p) 0) ≡ nat_eq b 1
flag zero p h k = ap not (eq-eqb (0 * p) 0 (omega arith))
flag (suc zero) p h k = ap not (ne_eqb (1 * p) 0 (λ e. omega (arith, e, k)))
flag (suc (suc b)) p h k = absurd (omega (arith, h))

flags : (place : ℕ) (xs : List ℕ) → map (λ x. not (eqb x 0)) (map (λ x. bit_and x (2 ^ place)) xs) ≡ map (digit_at place) xs
flags place [] = refl
flags place (x ∷ xs) =
    ap (λ n. not (eqb n 0) ∷ map (λ x. not (eqb x 0)) (map (λ x. bit_and x (2 ^ place)) xs)) (and_pow x place)
    ∙ ap (λ b. b ∷ map (λ x. not (eqb x 0)) (map (λ x. bit_and x (2 ^ place)) xs)) (flag (x / 2 ^ place % 2) (2 ^ place) (mod-lt (x / 2 ^ place) (omega arith)) (pow_pos place))
    ∙ ap (λ l. digit_at place x ∷ l) (flags place xs)

pub digit_of_lanes : (xs : List ℕ) (place bit : ℕ) → length xs ≡ 64 → place < 8 → bit ≡ 1 * 2 ^ place % 2 ^ 8
    → mask_l (map (top 7) (zip2 (λ a b. cond (not (eqb a b)) (2 ^ 8 - 1) 0) (zip2 bit_and xs (replicate 64 bit)) (replicate 64 0))) % 2 ^ 64 ≡ mask_l (map (digit_at place) xs)
digit_of_lanes xs place bit long h e =
    let small : 1 * 2 ^ place < 2 ^ 8 = omega (arith, pow-lt {i = place} {j = 8} h) in
    let is : bit ≡ 2 ^ place = e ∙ mod-eq_of_lt small ∙ omega arith in
    let lanes : zip2 bit_and xs (replicate 64 bit) ≡ map (λ x. bit_and x (2 ^ place)) xs = zip2_splat bit_and xs 64 bit long ∙ ap (λ b. map (λ x. bit_and x b) xs) is in
    let many : length (zip2 bit_and xs (replicate 64 bit)) ≡ 64 = ap length lanes ∙ length-map xs (λ x. bit_and x (2 ^ place)) ∙ long in
    bitmask_splat w8 (λ a b. not (eqb a b)) (zip2 bit_and xs (replicate 64 bit)) 64 0 many (omega arith)
    ∙ ap (λ l. mask_l (map (λ x. not (eqb x 0)) l)) lanes ∙ ap mask_l (flags place xs)

-- ---- digits of a byte

low_digit : (y place : ℕ) → place < 8 → (y % 256 / 2 ^ place) % 2 ≡ (y / 2 ^ place) % 2
low_digit y zero h = omega arith
low_digit y (suc zero) h = omega arith
low_digit y (suc (suc zero)) h = omega arith
low_digit y (suc (suc (suc zero))) h = omega arith
low_digit y (suc (suc (suc (suc zero)))) h = omega arith
low_digit y (suc (suc (suc (suc (suc zero))))) h = omega arith
low_digit y (suc (suc (suc (suc (suc (suc zero)))))) h = omega arith
low_digit y (suc (suc (suc (suc (suc (suc (suc zero))))))) h = omega arith
low_digit y (suc (suc (suc (suc (suc (suc (suc (suc place)))))))) h = absurd (omega (arith, h))

digit_of_byte : (byte place x : ℕ) → place < 8 → digit_at place (byte_of byte x) ≡ digit_at (8 * byte + place) x
digit_of_byte byte place x h =
    ap (λ b. b == 1) (low_digit (x / 2 ^ (8 * byte)) place h ∙ ap (λ q. q % 2) (div-div-eq-div-mul x (2 ^ (8 * byte)) (2 ^ place) ∙ ap (λ p. x / p) (sym (pow-add 2 (8 * byte) place))))

pub digits_of_bytes : (byte place : ℕ) (xs : List ℕ) → place < 8 → map (digit_at place) (map (byte_of byte) xs) ≡ map (digit_at (8 * byte + place)) xs
digits_of_bytes byte place [] h = refl
digits_of_bytes byte place (x ∷ xs) h =
    ap (λ b. b ∷ map (digit_at place) (map (byte_of byte) xs)) (digit_of_byte byte place x h)
    ∙ ap (λ l. digit_at (8 * byte + place) x ∷ l) (digits_of_bytes byte place xs h)

-- a digit of those bytes, as a word
pub word_of_bytes : (byte place word : ℕ) (bytes xs : List ℕ) → place < 8 → bytes ≡ map (byte_of byte) xs → word ≡ mask_l (map (digit_at place) bytes)
    → word ≡ mask_l (map (digit_at (8 * byte + place)) xs)
word_of_bytes byte place word bytes xs h e is = is ∙ ap (λ l. mask_l (map (digit_at place) l)) e ∙ ap mask_l (digits_of_bytes byte place xs h)

-- eight values, listed
pub eight_listed : (f : ℕ → ℕ) (a b c d e g h i : ℕ) → a ≡ f 0 → b ≡ f 1 → c ≡ f 2 → d ≡ f 3 → e ≡ f 4 → g ≡ f 5 → h ≡ f 6 → i ≡ f 7
    → a ∷ b ∷ c ∷ d ∷ e ∷ g ∷ h ∷ i ∷ [] ≡ map f (range_with_len 0 8)
eight_listed f a b c d e g h i p0 p1 p2 p3 p4 p5 p6 p7 =
    ap (λ x. x ∷ b ∷ c ∷ d ∷ e ∷ g ∷ h ∷ i ∷ []) p0 ∙ ap (λ x. f 0 ∷ x ∷ c ∷ d ∷ e ∷ g ∷ h ∷ i ∷ []) p1
    ∙ ap (λ x. f 0 ∷ f 1 ∷ x ∷ d ∷ e ∷ g ∷ h ∷ i ∷ []) p2 ∙ ap (λ x. f 0 ∷ f 1 ∷ f 2 ∷ x ∷ e ∷ g ∷ h ∷ i ∷ []) p3
    ∙ ap (λ x. f 0 ∷ f 1 ∷ f 2 ∷ f 3 ∷ x ∷ g ∷ h ∷ i ∷ []) p4 ∙ ap (λ x. f 0 ∷ f 1 ∷ f 2 ∷ f 3 ∷ f 4 ∷ x ∷ h ∷ i ∷ []) p5
    ∙ ap (λ x. f 0 ∷ f 1 ∷ f 2 ∷ f 3 ∷ f 4 ∷ f 5 ∷ x ∷ i ∷ []) p6 ∙ ap (λ x. f 0 ∷ f 1 ∷ f 2 ∷ f 3 ∷ f 4 ∷ f 5 ∷ f 6 ∷ x ∷ []) p7

-- zeros behind the last cell have no digit
zero_digit : (shift : ℕ) → digit_at shift 0 ≡ false
zero_digit shift = ap (λ q. q % 2 == 1) (zero_quotient (2 ^ shift) (pow_pos shift))

mask_zeros : (shift n : ℕ) → mask_l (map (digit_at shift) (replicate n 0)) ≡ 0
mask_zeros shift zero = refl
mask_zeros shift (suc n) =
    let none : digit_at shift 0 ≡ false = zero_digit shift in
    ap (λ b. cond b 1 0 + 2 * mask_l (map (digit_at shift) (replicate n 0))) none ∙ ap (λ m. 0 + 2 * m) (mask_zeros shift n)

mask_padded : (shift n : ℕ) (xs : List ℕ) → mask_l (map (digit_at shift) (xs ++ replicate n 0)) ≡ mask_l (map (digit_at shift) xs)
mask_padded shift n [] = mask_zeros shift n
mask_padded shift n (x ∷ xs) = ap (λ m. cond (digit_at shift x) 1 0 + 2 * m) (mask_padded shift n xs)

words_padded : (byte n : ℕ) (xs places : List ℕ) → map (λ place. mask_l (map (digit_at (8 * byte + place)) (xs ++ replicate n 0))) places ≡ map (λ place. mask_l (map (digit_at (8 * byte + place)) xs)) places
words_padded byte n xs [] = refl
words_padded byte n xs (p ∷ ps) =
    ap (λ w. w ∷ map (λ place. mask_l (map (digit_at (8 * byte + place)) (xs ++ replicate n 0))) ps) (mask_padded (8 * byte + p) n xs)
    ∙ ap (λ l. mask_l (map (digit_at (8 * byte + p)) xs) ∷ l) (words_padded byte n xs ps)

pub digits_padded : (byte n : ℕ) (xs : List ℕ) → byte_digits byte (xs ++ replicate n 0) ≡ byte_digits byte xs
digits_padded byte n xs = words_padded byte n xs (range_with_len 0 8)

-- the last cells, with zeros behind them
pub padded_digits : (byte : ℕ) (cells new : List ℕ) (at n : ℕ) → n ≡ length cells - at → n < 64 → new ≡ drop at cells
    → byte_digits byte (take 64 (new ++ drop n (replicate 64 0))) ≡ byte_digits byte (take 64 (drop at cells))
padded_digits byte cells new at n e h is =
    let rest = drop at cells in
    let long : length rest ≡ n = length-drop at cells ∙ sym e in
    let whole : new ++ drop n (replicate 64 0) ≡ rest ++ replicate (64 - n) 0 = ap (λ l. l ++ drop n (replicate 64 0)) is ∙ ap (λ l. rest ++ l) (drop-replicate n 64 0) in
    let zeros : length (replicate {A = ℕ} (64 - n) 0) ≡ 64 - n = length-replicate (64 - n) 0 in
    let all : length (rest ++ replicate (64 - n) 0) ≤ 64 = omega (arith, length-append rest (replicate (64 - n) 0), long, zeros, h) in
    ap (λ l. byte_digits byte (take 64 l)) whole ∙ ap (byte_digits byte) (take_all 64 (rest ++ replicate (64 - n) 0) all)
    ∙ digits_padded byte (64 - n) rest ∙ ap (byte_digits byte) (sym (take_all 64 rest (omega (arith, long, h))))

-- ---- blocks of digits

pub length-digit_blocks : (n byte : ℕ) (cells : List ℕ) → length (digit_blocks n byte cells) ≡ n
length-digit_blocks zero byte cells = refl
length-digit_blocks (suc n) byte cells = ap suc (length-digit_blocks n byte (drop 64 cells))

pub get_or-digit_blocks : (n byte : ℕ) (cells : List ℕ) (i : ℕ) → i < n → get_or (digit_blocks n byte cells) i [] ≡ byte_digits byte (take 64 (drop (64 * i) cells))
get_or-digit_blocks zero byte cells i h = absurd (omega (arith, h))
get_or-digit_blocks (suc n) byte cells zero h = refl
get_or-digit_blocks (suc n) byte cells (suc i) h =
    let at : 64 + 64 * i ≡ 64 * suc i = omega arith in
    get_or-digit_blocks n byte (drop 64 cells) i (omega (arith, h)) ∙ ap (λ l. byte_digits byte (take 64 l)) (drop-drop (64 * i) 64 cells ∙ ap (λ k. drop k cells) at)

-- the words of one digit are the rows' digits, packed
pub words_at-digit_blocks : (n byte place : ℕ) (cells : List ℕ) → place < 8 → words_at place (digit_blocks n byte cells) ≡ packed n (map (digit_at (8 * byte + place)) cells)
words_at-digit_blocks zero byte place cells h = refl
words_at-digit_blocks (suc n) byte place cells h =
    let d = digit_at (8 * byte + place) in
    let word : get_or (byte_digits byte (take 64 cells)) place 0 ≡ mask_l (map d (take 64 cells)) =
    get_or-map-range_with_len (λ p. mask_l (map (digit_at (8 * byte + p)) (take 64 cells))) 0 8 place place 0 h (omega arith) in
    ap (λ w. w ∷ words_at place (digit_blocks n byte (drop 64 cells))) (word ∙ ap mask_l (sym (take-map d 64 cells)))
    ∙ ap (λ l. mask_l (take 64 (map d cells)) ∷ l) (words_at-digit_blocks n byte place (drop 64 cells) h ∙ ap (packed n) (sym (drop-map d 64 cells)))

-- a block is written behind those that were
pub next_block : (a b now : List (List ℕ)) (i : ℕ) (v : List ℕ) → length a ≡ length b → i < length b → now ≡ take i a ++ drop i b → v ≡ get_or a i [] → set now i v ≡ take (i + 1) a ++ drop (i + 1) b
next_block a b now i v same h inv e =
    let long : length (take i a) ≡ i = length-take-le i a (omega (arith, same, h)) in
    ap (λ l. set l i v) (inv ∙ ap (λ l. take i a ++ l) (drop_more b i [] h))
    ∙ set_at (take i a) (get_or b i []) (drop (i + 1) b) v i long
    ∙ ap (λ w. take i a ++ w ∷ drop (i + 1) b) e
    ∙ sym (append_assoc (take i a) (get_or a i [] ∷ []) (drop (i + 1) b)) ∙ ap (λ l. l ++ drop (i + 1) b) (sym (take_more a i [] (omega (arith, same, h))))

pub all_blocks : (a b now : List (List ℕ)) (i : ℕ) → length a ≡ length b → length b ≤ i → now ≡ take i a ++ drop i b → now ≡ a
all_blocks a b now i same past inv =
    inv ∙ ap (λ l. l ++ drop i b) (take_all i a (omega (arith, same, past))) ∙ ap (λ l. a ++ l) (drop_all i b past) ∙ append-nil a
