-- Rows that all have one bit, beside others.
use Rattle.std.proofs.Common.{◌≡◌, ℕ, zero, suc, ◌+◌, ◌-◌, ◌*◌, ◌/◌, ◌%◌, ◌^◌, ◌<◌, ◌≤◌, min, Bool, true, false, not, ◌&&◌, ◌||◌, List, [], ◌∷◌, ◌++◌, length, length-append, length-drop, take, take-append-drop, drop, get_or, map, replicate, Some, None, sym, refl, ap, subst, ◌∙◌, arith, inl, inr, cond, if◌then◌else◌}
use Rattle.std.proofs.lemmas.Bool.{cases_lt}
use Rattle.std.proofs.lemmas.List.{append-nil, drop-drop, drop_all, get_or-replicate, length-take, take_all, take_at, take_more, drop-replicate, length-replicate, map-id, take-replicate}
use Rattle.std.proofs.lemmas.Simd.{zip2_splat, zip2_splat_left}
use Rattle.std.proofs.lemmas.List.Sums.{sum_by-cons}
use Rattle.std.specs.List.{count_by, position, position_from, slice_get}
use Rattle.std.specs.Simd.Lanes.{zip2}
use Rattle.std.proofs.lemmas.Iterator.Adapters.{position_from-zero}
use Rattle.std.proofs.lemmas.Grind.{flat_map-append}
use Rattle.std.proofs.lemmas.Nat.{pow_pos}
use Rattle.std.proofs.lemmas.Slice.{drop-put_mid, take-put_mid}
use borrow.Rule.Slice.PartMut.{put_mid}
use Rattle.std.specs.Int.{w64, bit_not, to_le_bytes}
use Rattle.std.specs.Int.Bits.{bit_and}
use Rattle.plane_kernels.specs.Bytes.{bytes_of_rows, bytes_of_words, word_count}
use Rattle.plane_kernels.proofs.BytesLemmas.{bytes-rows_of, length-bytes}
use Rattle.plane_kernels.specs.RowBits.{IsWritten, rows_held}
use Rattle.plane_kernels.specs.declared.row_bits.State.{State}
use Rattle.plane_kernels.specs.declared.row_bits.State.TheVariants.{Even, Written}
use Rattle.plane_kernels.specs.Rows.{HoldsRows, IsPadded, bits_of, rows_of}
use Rattle.plane_kernels.specs.Words.{flipped}
use Rattle.plane_kernels.proofs.Bitwise.{bits_of-not}
use Rattle.plane_kernels.proofs.BlockLemmas.{padded-filled, rows_of-append}
use Rattle.plane_kernels.proofs.Flips.{AreBlank, bits_of-zero, blank, flipped_word, get_or-flipped, length-flipped, map_not-replicate, turned_round}
use Rattle.plane_kernels.proofs.FirstBit.{first_at}
use Rattle.plane_kernels.proofs.Puts.{rows_of-none}

-- ---- one operand is even

map-same : (g h : Bool → Bool) → ((x : Bool) → g x ≡ h x) → (xs : List Bool) → map g xs ≡ map h xs
map-same g h same [] = refl
map-same g h same (x ∷ xs) = ap (λ v. v ∷ map g xs) (same x) ∙ ap (λ l. h x ∷ l) (map-same g h same xs)

map-told : (d : Bool) (xs : List Bool) → map (λ _. d) xs ≡ replicate (length xs) d
map-told d [] = refl
map-told d (x ∷ xs) = ap (λ l. d ∷ l) (map-told d xs)

-- the second
pub beside : (f : Bool → Bool → Bool) (b : Bool) (g : Bool → Bool) → ((x : Bool) → f x b ≡ g x) → (xs ys : List Bool) (n : ℕ) → ys ≡ replicate n b → length ys ≡ length xs → zip2 f xs ys ≡ map g xs
beside f b g same xs ys n e long =
    ap (zip2 f xs) e ∙ zip2_splat f xs n b (sym long ∙ ap length e ∙ length-replicate n b) ∙ map-same (λ x. f x b) g same xs

pub kept_beside : (f : Bool → Bool → Bool) (b : Bool) → ((x : Bool) → f x b ≡ x) → (xs ys : List Bool) (n : ℕ) → ys ≡ replicate n b → length ys ≡ length xs → zip2 f xs ys ≡ xs
kept_beside f b same xs ys n e long = beside f b (λ x. x) same xs ys n e long ∙ map-id xs

pub told_beside : (f : Bool → Bool → Bool) (b d : Bool) → ((x : Bool) → f x b ≡ d) → (xs ys : List Bool) (n : ℕ) → ys ≡ replicate n b → length ys ≡ length xs → zip2 f xs ys ≡ replicate (length xs) d
told_beside f b d same xs ys n e long = beside f b (λ _. d) same xs ys n e long ∙ map-told d xs

-- the first
pub behind : (f : Bool → Bool → Bool) (b : Bool) (g : Bool → Bool) → ((y : Bool) → f b y ≡ g y) → (xs ys : List Bool) (n : ℕ) → xs ≡ replicate n b → length ys ≡ length xs → zip2 f xs ys ≡ map g ys
behind f b g same xs ys n e long =
    ap (λ l. zip2 f l ys) e ∙ zip2_splat_left f b n ys (long ∙ ap length e ∙ length-replicate n b) ∙ map-same (λ y. f b y) g same ys

pub kept_behind : (f : Bool → Bool → Bool) (b : Bool) → ((y : Bool) → f b y ≡ y) → (xs ys : List Bool) (n : ℕ) → xs ≡ replicate n b → length ys ≡ length xs → zip2 f xs ys ≡ ys
kept_behind f b same xs ys n e long = behind f b (λ y. y) same xs ys n e long ∙ map-id ys

pub told_behind : (f : Bool → Bool → Bool) (b d : Bool) → ((y : Bool) → f b y ≡ d) → (xs ys : List Bool) (n : ℕ) → xs ≡ replicate n b → length ys ≡ length xs → zip2 f xs ys ≡ replicate (length xs) d
told_behind f b d same xs ys n e long = behind f b (λ _. d) same xs ys n e long ∙ map-told d ys ∙ ap (λ k. replicate k d) long

-- ---- what the operations do at a bit

pub and_true : (x : Bool) → (x && true) ≡ x
and_true true = refl
and_true false = refl

pub and_false : (x : Bool) → (x && false) ≡ false
and_false true = refl
and_false false = refl

pub or_true : (x : Bool) → (x || true) ≡ true
or_true true = refl
or_true false = refl

pub or_false : (x : Bool) → (x || false) ≡ x
or_false true = refl
or_false false = refl

pub and_not_true : (x : Bool) → (x && not true) ≡ false
and_not_true x = and_false x

pub and_not_false : (x : Bool) → (x && not false) ≡ x
and_not_false x = and_true x

-- ---- no row and all rows

-- no row is first where none is there
pub none_of : (xs : List Bool) (i : ℕ) → ((m : ℕ) → m < length xs → slice_get xs m ≡ Some false) → position_from (λ b. b) i xs ≡ None
none_of [] i h = refl
none_of (true ∷ xs) i h = (let first = h 0 (omega arith) in cc)
none_of (false ∷ xs) i h = none_of xs (i + 1) (λ m l. h (suc m) (omega (arith, l)))

get-replicate : (n m : ℕ) (b : Bool) → m < n → slice_get (replicate n b) m ≡ Some b
get-replicate zero m b h = absurd (omega (arith, h))
get-replicate (suc n) zero b h = refl
get-replicate (suc n) (suc m) b h = get-replicate n m b (omega (arith, h))

pub none_in : (n : ℕ) → position (λ b. b) (replicate n false) ≡ None
none_in n = position_from-zero (λ b. b) (replicate n false) ∙ none_of (replicate n false) 0 (λ m h. get-replicate n m false (let long = length-replicate n false in omega (arith, h, long)))

pub count_none : (n : ℕ) → count_by (λ b. b) (replicate n false) ≡ 0
count_none zero = refl
count_none (suc n) = (let more = sum_by-cons (λ b. cond b 1 0) false (replicate n false) in let left = count_none n in omega (arith, more, left))

-- ---- words of rows that all have one bit

-- the lowest bits of a word of ones
ones_low : (k : ℕ) → k ≤ 64 → bits_of k 18446744073709551615 ≡ replicate k true
ones_low k h = (let least : 0 < 2 ^ 64 = omega arith in bits_of-not k 64 0 h least ∙ ap (map not) (bits_of-zero k) ∙ map_not-replicate k)

-- the rows of a block
pub part_of_even : (size from n : ℕ) (b : Bool) → take size (drop from (replicate n b)) ≡ replicate (min size (n - from)) b
part_of_even size from n b = ap (take size) (drop-replicate from n b) ∙ take_some size (n - from) b
  where
    take_some : (m n : ℕ) (b : Bool) → take m (replicate n b) ≡ replicate (min m n) b
    take_some m n b =
        elim (cases_lt m n) [
          | inl low ↦ take-replicate m n b (omega (arith, low)) ∙ ap (λ k. replicate k b) (omega (arith, low))
          | inr high ↦ (let long = length-replicate n b in take_all m (replicate n b) (omega (arith, high, long)) ∙ ap (λ k. replicate k b) (omega (arith, high)))
        ]

pub word_of_ones : (n q : ℕ) → bits_of (min 64 (n - 64 * q)) 18446744073709551615 ≡ take 64 (drop (64 * q) (replicate n true))
word_of_ones n q = ones_low (min 64 (n - 64 * q)) (omega arith) ∙ sym (part_of_even 64 (64 * q) n true)

pub word_of_none : (n q : ℕ) → bits_of (min 64 (n - 64 * q)) 0 ≡ take 64 (drop (64 * q) (replicate n false))
word_of_none n q = bits_of-zero (min 64 (n - 64 * q)) ∙ sym (part_of_even 64 (64 * q) n false)

-- ---- rows that are held with one bit

pub even_now : (held now : List Bool) (rows : ℕ) (bit b : Bool) → held ≡ now → held ≡ replicate rows bit → bit ≡ b → now ≡ replicate rows b
even_now held now rows bit b view is told = sym view ∙ is ∙ ap (replicate rows) told

-- the rows once they are written
pub written_rows : (rows : List Bool) (state : State) → IsWritten rows state → rows_held state ≡ rows
written_rows rows (Even _ _ _) is = absurd is
written_rows rows (Written bits) is = is

-- ---- rows of one bit turned round, and their count

pub all_same : (xs : List Bool) (n : ℕ) (b : Bool) → xs ≡ replicate n b → xs ≡ replicate (length xs) b
all_same xs n b e = e ∙ ap (λ k. replicate k b) (sym (ap length e ∙ length-replicate n b))

pub not_even : (n : ℕ) (b : Bool) → replicate n (not b) ≡ map not (replicate n b)
not_even zero b = refl
not_even (suc n) b = ap (λ l. not b ∷ l) (not_even n b)

-- ---- words of no row

pub filled_words : (rows count : ℕ) (words : List ℕ) → count ≡ rows / 64 + min 1 (rows % 64) → words ≡ replicate count 0 → AreBlank rows words
filled_words rows count words e f = subst (AreBlank rows) (sym f) (blank count rows (omega (arith, e)) (omega (arith, e)))

-- ---- rows that are added

pub or_not : (xs ys : List Bool) → map not (zip2 (λ a b. a && b) (map not xs) ys) ≡ zip2 (λ a b. a || not b) xs ys
or_not [] ys = refl
or_not (x ∷ xs) [] = refl
or_not (true ∷ xs) (y ∷ ys) = ap (λ l. true ∷ l) (or_not xs ys)
or_not (false ∷ xs) (y ∷ ys) = ap (λ l. not y ∷ l) (or_not xs ys)

-- nothing is added
pub none_added : (xs ls ys : List Bool) → length ls ≡ length xs → ys ≡ replicate (length ls) false → xs ≡ zip2 (λ a b. a || b) xs ys
none_added xs ls ys long e = sym (kept_beside (λ a b. a || b) false or_false xs ys (length ls) e (ap length e ∙ length-replicate (length ls) false ∙ long))

-- nothing is taken away
pub none_taken : (xs ls ys : List Bool) → length ls ≡ length xs → ys ≡ replicate (length ls) false → xs ≡ zip2 (λ a b. a && not b) xs ys
none_taken xs ls ys long e = sym (kept_beside (λ a b. a && not b) false and_not_false xs ys (length ls) e (ap length e ∙ length-replicate (length ls) false ∙ long))

pub and_twice : (xs ys : List Bool) → zip2 (λ a b. a && not b) xs (map not ys) ≡ zip2 (λ a b. a && b) xs ys
and_twice [] ys = refl
and_twice (x ∷ xs) [] = refl
and_twice (x ∷ xs) (true ∷ ys) = ap (λ l. (x && true) ∷ l) (and_twice xs ys)
and_twice (x ∷ xs) (false ∷ ys) = ap (λ l. (x && false) ∷ l) (and_twice xs ys)

-- ---- a search row by row

pub get-zip2 : (f : Bool → Bool → Bool) (xs ys : List Bool) (m : ℕ) (a b : Bool) → slice_get xs m ≡ Some a → slice_get ys m ≡ Some b → slice_get (zip2 f xs ys) m ≡ Some (f a b)
get-zip2 f [] ys m a b d e = cc
get-zip2 f (x ∷ xs) [] m a b d e = cc
get-zip2 f (x ∷ xs) (y ∷ ys) zero a b d e = cc
get-zip2 f (x ∷ xs) (y ∷ ys) (suc m) a b d e = get-zip2 f xs ys m a b d e

-- none of the first rows is there
abbrev pub NoneBefore : ℕ → List Bool → Type 0
NoneBefore n rows = (m : ℕ) → m < n → slice_get rows m ≡ Some false

pub none_before_next : (n : ℕ) (rows : List Bool) → NoneBefore n rows → slice_get rows n ≡ Some false → NoneBefore (n + 1) rows
none_before_next n rows none here m h =
    elim (cases_lt m n) [ inl low ↦ none m low | inr high ↦ (let same : m ≡ n = omega (arith, h, high) in ap (slice_get rows) same ∙ here) ]

pub first_there : (n : ℕ) (rows : List Bool) → NoneBefore n rows → slice_get rows n ≡ Some true → Some n ≡ position (λ b. b) rows
first_there n rows none here = sym (position_from-zero (λ b. b) rows ∙ first_at rows 0 n here none ∙ ap Some (omega arith))

pub none_there : (n : ℕ) (rows : List Bool) → NoneBefore n rows → length rows ≡ n → None ≡ position (λ b. b) rows
none_there n rows none long = sym (position_from-zero (λ b. b) rows ∙ none_of rows 0 (λ m h. none m (omega (arith, h, long))))

-- ---- words of one bit

-- these words have so many rows, all of them 1
pub record HaveRows (n : ℕ) (ws : List ℕ) : Type 0 where
  pub rows : rows_of n ws ≡ replicate n true
  pub padded : IsPadded n ws

abbrev pub even_words : ℕ → ℕ → Bool → List ℕ
even_words count n bit = if bit then flipped n (replicate count 0) else replicate count 0

-- the words of so many rows
pub even_block_words : (n count : ℕ) → count ≡ n / 64 + min 1 (n % 64) → (rest : ℕ) → HaveRows n (flipped n (replicate count 0) ++ replicate rest 0)
even_block_words n count e rest =
    let zeros = blank count n (omega (arith, e)) (omega (arith, e)) in
    let turned = turned_round n (replicate count 0) zeros.holds in
    let ws = flipped n (replicate count 0) in
    let none : n - 64 * length ws ≡ 0 = omega (arith, turned.holds.room) in
    record {
      rows = rows_of-append n ws (replicate rest 0) ∙ ap (λ k. rows_of n ws ++ rows_of k (replicate rest 0)) none ∙ ap (λ l. rows_of n ws ++ l) (rows_of-none (replicate rest 0))
          ∙ append-nil (rows_of n ws) ∙ turned.rows ∙ ap (map not) zeros.rows ∙ map_not-replicate n;
      padded = padded-filled rest n ws turned.holds.padded;
    }

-- words that have so many rows, all with this bit
pub record AreEven (n : ℕ) (bit : Bool) (ws : List ℕ) : Type 0 where
  pub holds : HoldsRows n ws
  pub rows : rows_of n ws ≡ replicate n bit

are_even : (count n : ℕ) (bit : Bool) → n ≤ 64 * count → 64 * count < n + 64 → AreEven n bit (even_words count n bit)
are_even count n false h k = (let zeros = blank count n h k in record { holds = zeros.holds; rows = zeros.rows })
are_even count n true h k =
    let zeros = blank count n h k in
    let turned = turned_round n (replicate count 0) zeros.holds in
    record { holds = turned.holds; rows = turned.rows ∙ ap (map not) zeros.rows ∙ map_not-replicate n }

pub length-even : (count n : ℕ) (bit : Bool) → length (even_words count n bit) ≡ count
length-even count n false = length-replicate count 0
length-even count n true = length-flipped n (replicate count 0) ∙ length-replicate count 0

none_less : (n : ℕ) → n - 0 ≡ n
none_less n = omega arith

pub get_or-even : (count n : ℕ) (bit : Bool) (at : ℕ) → at < count → get_or (even_words count n bit) at 0 ≡ (if bit then 2 ^ min (n - 64 * at) 64 - 1 else 0)
get_or-even count n false at h = get_or-replicate count at 0 0 h
get_or-even count n true at h =
    let long = length-replicate {A = ℕ} count 0 in
    let k = min (n - 64 * at) 64 in
    get_or-flipped n (replicate count 0) at (omega (arith, long, h)) ∙ ap (λ w. bit_and (bit_not w64 w) (2 ^ k - 1)) (get_or-replicate count at 0 0 h) ∙ flipped_word k 0 (omega arith) (pow_pos k) ∙ none_less (2 ^ k - 1)

-- one word more is stored
pub store_step : (ws : List ℕ) (at w k : ℕ) (out start eight : List ℕ) → at < length ws → w ≡ get_or ws at 0 → eight ≡ to_le_bytes w64 w → k ≡ 8 → 8 * length ws ≡ length start
    → out ≡ bytes_of_words (take at ws) ++ drop (8 * at) start → put_mid (8 * at) k out eight ≡ bytes_of_words (take (at + 1) ws) ++ drop (8 * (at + 1)) start
store_step ws at w k out start eight h word bytes size long inv =
    let done = bytes_of_words (take at ws) in
    let front : length done ≡ 8 * at = length-bytes (take at ws) ∙ omega (arith, length-take at ws, h) in
    let all : length out ≡ length start = ap length inv ∙ length-append done (drop (8 * at) start) ∙ omega (arith, front, length-drop (8 * at) start, long, h) in
    let few : length eight ≡ 8 = ap length bytes in
    let next : 8 * (at + 1) ≡ 8 * at + length eight = omega (arith, few) in
    let new = put_mid (8 * at) k out eight in
    let taken : take (8 * (at + 1)) new ≡ done ++ eight =
    take-put_mid (8 * at) k out eight (8 * (at + 1)) next (omega (arith, all, long, h)) ∙ ap (λ l. take (8 * at) l ++ eight) inv ∙ ap (λ l. l ++ eight) (take_at done (drop (8 * at) start) (8 * at) front) in
    let left : drop (8 * (at + 1)) new ≡ drop (8 * (at + 1)) start =
    drop-put_mid (8 * at) k out eight (8 * (at + 1)) (omega (arith, size)) (omega (arith, all, long, h)) (few ∙ sym size) ∙ ap (drop (8 * (at + 1))) inv
    ∙ drop_behind done (drop (8 * at) start) 8 (8 * (at + 1)) (omega (arith, front)) ∙ drop-drop 8 (8 * at) start ∙ ap (λ n. drop n start) (omega arith) in
    let more : bytes_of_words (take (at + 1) ws) ≡ done ++ eight =
    ap bytes_of_words (take_more ws at 0 h ∙ ap (λ v. take at ws ++ v ∷ []) (sym word)) ∙ flat_map-append (to_le_bytes w64) (take at ws) (w ∷ []) ∙ ap (λ l. done ++ l) (append-nil (to_le_bytes w64 w) ∙ sym bytes) in
    sym (take-append-drop (8 * (at + 1)) new) ∙ ap (λ l. l ++ drop (8 * (at + 1)) new) (taken ∙ sym more) ∙ ap (λ l. bytes_of_words (take (at + 1) ws) ++ l) left
  where
    drop_behind : (xs ys : List ℕ) (i n : ℕ) → n ≡ length xs + i → drop n (xs ++ ys) ≡ drop i ys
    drop_behind [] ys i n e = ap (λ m. drop m ys) (omega (arith, e))
    drop_behind (x ∷ xs) ys i zero e = absurd (omega (arith, e))
    drop_behind (x ∷ xs) ys i (suc n) e = drop_behind xs ys i n (omega (arith, e))

-- all words are stored
pub even_bytes : (count n : ℕ) (bit : Bool) (at : ℕ) (out start : List ℕ) → count ≡ word_count n → count ≤ at → length start ≡ 8 * count
    → out ≡ bytes_of_words (take at (even_words count n bit)) ++ drop (8 * at) start → out ≡ bytes_of_rows (replicate n bit)
even_bytes count n bit at out start e past long inv =
    let ws = even_words count n bit in
    let size = length-even count n bit in
    let even = are_even count n bit (omega (arith, e)) (omega (arith, e)) in
    inv ∙ ap (λ l. bytes_of_words l ++ drop (8 * at) start) (take_all at ws (omega (arith, size, past))) ∙ ap (λ l. bytes_of_words ws ++ l) (drop_all (8 * at) start (omega (arith, long, past)))
    ∙ append-nil (bytes_of_words ws) ∙ sym (bytes-rows_of n ws even.holds) ∙ ap bytes_of_rows even.rows
