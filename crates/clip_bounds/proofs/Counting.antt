-- The rows of a block at one prefix, narrowed digit by digit as the bits of eight words.
use Rattle.std.proofs.Common.{◌≡◌, ℕ, suc, ◌+◌, ◌-◌, ◌*◌, ◌/◌, ◌^◌, ◌<◌, ◌≤◌, ◌==◌, min, Bool, true, false, not, ◌&&◌, cond, List, [], ◌∷◌, ◌++◌, length, map, take, drop, get_or, count_by, sum_by, refl, sym, ap, subst, ◌∙◌, arith, length-drop, if◌then◌else◌}
use Rattle.std.specs.Int.{bit_not, w64}
use Rattle.std.specs.Int.Bits.{bit_and}
use Rattle.std.specs.Int.Count.{ones}
use Rattle.std.specs.Simd.Lanes.{zip2}
use Rattle.std.proofs.Math.Nat.{div-eq_of_lt, div-one}
use Rattle.std.proofs.lemmas.Bool.Decides.{nat_tests}
use Rattle.std.proofs.lemmas.List.{drop-map, get_or-drop, get_or-take, length-map, length-take, take-map}
use Rattle.std.proofs.lemmas.List.Sums.{count_by-le-length, sum_by-cons}
use Rattle.std.proofs.lemmas.Simd.{length-zip2}
use Rattle.plane_kernels.specs.Rows.{block_rows, rows_of, IsPadded}
use Rattle.plane_kernels.specs.Words.{and_not}
use Rattle.plane_kernels.proofs.Bitwise.{IsBitwise, and_is_bitwise, and_not_is_bitwise}
use Rattle.plane_kernels.proofs.RowLemmas.{count-rows_of, length-bits_of, length-rows_of, zip2-append}
use Rattle.plane_kernels.specs.Rows.{bits_of}
use Rattle.query_model.proofs.Blocks.{prefixes_are_legal}
use Rattle.query_model.proofs.Groups.{prefix_small}
use Rattle.known_column.specs.Columns.{KnownColumn, digit_of, rows_of_column}
use Rattle.known_column.specs.RowBlocks.{IsKnownColumn}
use Rattle.aggregates.specs.Selections.{block_of, sum_where}
use Rattle.aggregates.proofs.NumberRows.{halved}
use Rattle.clip_bounds.specs.Levels.{count_at}

-- ---- operations on words that may be more than the rows need

rows_joined : (f : ℕ → ℕ → ℕ) (g : Bool → Bool → Bool) → IsBitwise f g → (n : ℕ) (ws vs : List ℕ) → length vs ≡ length ws → IsPadded n ws → IsPadded n vs → rows_of n (zip2 f ws vs) ≡ zip2 g (rows_of n ws) (rows_of n vs)
rows_joined f g is n [] vs e p q = refl
rows_joined f g is n (w ∷ ws) [] e p q = absurd (omega (arith, e))
rows_joined f g is n (w ∷ ws) (v ∷ vs) e p q =
    let k = min n 64 in
    let same : length (bits_of k w) ≡ length (bits_of k v) = length-bits_of k w ∙ sym (length-bits_of k v) in
    ap (λ l. l ++ rows_of (n - 64) (zip2 f ws vs)) (is.bits k w v (omega arith) p.0 q.0)
    ∙ ap (λ l. zip2 g (bits_of k w) (bits_of k v) ++ l) (rows_joined f g is (n - 64) ws vs (omega (arith, e)) p.1 q.1)
    ∙ sym (zip2-append g (bits_of k w) (rows_of (n - 64) ws) (bits_of k v) (rows_of (n - 64) vs) same)

padded_joined : (f : ℕ → ℕ → ℕ) (g : Bool → Bool → Bool) → IsBitwise f g → (n : ℕ) (ws vs : List ℕ) → length vs ≡ length ws → IsPadded n ws → IsPadded n vs → IsPadded n (zip2 f ws vs)
padded_joined f g is n [] vs e p q = tt
padded_joined f g is n (w ∷ ws) [] e p q = absurd (omega (arith, e))
padded_joined f g is n (w ∷ ws) (v ∷ vs) e p q = (is.within (min n 64) w v p.0 q.0, padded_joined f g is (n - 64) ws vs (omega (arith, e)) p.1 q.1)

-- the words with a bit, or without it
abbrev pub kept_words : Bool → List ℕ → List ℕ → List ℕ
kept_words bit ws vs = zip2 bit_and ws (if bit then vs else map (bit_not w64) vs)

abbrev keeps : Bool → Bool → Bool → Bool
keeps bit a b = if bit then a && b else a && not b

without : (ws vs : List ℕ) → zip2 bit_and ws (map (bit_not w64) vs) ≡ zip2 and_not ws vs
without [] vs = refl
without (w ∷ ws) [] = refl
without (w ∷ ws) (v ∷ vs) = ap (λ l. and_not w v ∷ l) (without ws vs)

rows_kept : (bit : Bool) (n : ℕ) (ws vs : List ℕ) → length vs ≡ length ws → IsPadded n ws → IsPadded n vs → rows_of n (kept_words bit ws vs) ≡ zip2 (keeps bit) (rows_of n ws) (rows_of n vs)
rows_kept true n ws vs e p q = rows_joined bit_and (λ a b. a && b) and_is_bitwise n ws vs e p q
rows_kept false n ws vs e p q = ap (rows_of n) (without ws vs) ∙ rows_joined and_not (λ a b. a && not b) and_not_is_bitwise n ws vs e p q

padded_kept : (bit : Bool) (n : ℕ) (ws vs : List ℕ) → length vs ≡ length ws → IsPadded n ws → IsPadded n vs → IsPadded n (kept_words bit ws vs)
padded_kept true n ws vs e p q = padded_joined bit_and (λ a b. a && b) and_is_bitwise n ws vs e p q
padded_kept false n ws vs e p q = subst (IsPadded n) (sym (without ws vs)) (padded_joined and_not (λ a b. a && not b) and_not_is_bitwise n ws vs e p q)

length_kept : (bit : Bool) (ws vs : List ℕ) → length vs ≡ length ws → length (kept_words bit ws vs) ≡ length ws
length_kept true ws vs e = length-zip2 bit_and ws vs (sym e)
length_kept false ws vs e = length-zip2 bit_and ws (map (bit_not w64) vs) (sym e ∙ sym (length-map vs (bit_not w64)))

-- ---- rows that share their first digits with a prefix

-- the numbers are the same without so many digits at their end
abbrev pub shares : ℕ → ℕ → ℕ → Bool
shares prefix k p = p / 2 ^ k == prefix / 2 ^ k

-- the mask's rows whose numbers pass a test
abbrev pub rows_with : (ℕ → Bool) → List Bool → List ℕ → List Bool
rows_with test mask prefixes = zip2 (λ a b. a && b) mask (map test prefixes)

all_pass : (test : ℕ → Bool) (mask : List Bool) (ps : List ℕ) → length mask ≡ length ps → ((i : ℕ) → i < length ps → test (get_or ps i 0) ≡ true) → rows_with test mask ps ≡ mask
all_pass test [] ps long pass = refl
all_pass test (m ∷ mask) [] long pass = absurd (omega (arith, long))
all_pass test (m ∷ mask) (p ∷ ps) long pass =
    ap (λ b. b ∷ rows_with test mask ps) (both m (test p) (pass 0 (omega arith))) ∙ ap (λ ms. m ∷ ms) (all_pass test mask ps (omega (arith, long)) (λ i below. pass (suc i) (omega (arith, below))))
  where
    both : (a t : Bool) → t ≡ true → (a && t) ≡ a
    both true t e = e
    both false t e = refl

one_more : (g : Bool → Bool → Bool) (s d t : ℕ → Bool) → ((a : Bool) (p : ℕ) → g (a && s p) (d p) ≡ (a && t p)) → (mask : List Bool) (ps : List ℕ) → zip2 g (rows_with s mask ps) (map d ps) ≡ rows_with t mask ps
one_more g s d t each [] ps = refl
one_more g s d t each (m ∷ mask) [] = refl
one_more g s d t each (m ∷ mask) (p ∷ ps) = ap (λ b. b ∷ zip2 g (rows_with s mask ps) (map d ps)) (each m p) ∙ ap (λ bs. (m && t p) ∷ bs) (one_more g s d t each mask ps)

-- one digit more is shared
longer_shared : (a d bit : Bool) (x y x' y' : ℕ) → x' ≡ 2 * x + cond d 1 0 → y' ≡ 2 * y + cond bit 1 0 → keeps bit (a && (x == y)) d ≡ (a && (x' == y'))
longer_shared false d true x y x' y' e f = refl
longer_shared false d false x y x' y' e f = refl
longer_shared true true true x y x' y' e f = grind (arith, nat_tests)
longer_shared true true false x y x' y' e f = grind (arith, nat_tests)
longer_shared true false true x y x' y' e f = grind (arith, nat_tests)
longer_shared true false false x y x' y' e f = grind (arith, nat_tests)

-- ---- a block

-- the words have the mask's rows of the block that share the first j digits with the prefix
pub record AreAtDigits (column : KnownColumn) (mask : List Bool) (prefix block j : ℕ) (words : List ℕ) : Type 0 where
  pub rows : rows_of (block_rows (length mask) block) words ≡ rows_with (shares prefix (column.known.read - j)) (block_of block mask) (block_of block column.known.prefixes)
  pub padded : IsPadded (block_rows (length mask) block) words
  pub eight : length words ≡ 8

length_block : {A : Type 0} (block : ℕ) (xs : List A) → length (block_of block xs) ≡ min 512 (length xs - 512 * block)
length_block block xs = length-take 512 (drop (512 * block) xs) ∙ ap (min 512) (length-drop (512 * block) xs)

-- a prefix has no more digits than were read
pub few_digits : (column : KnownColumn) (r : ℕ) → IsKnownColumn column → r < rows_of_column column → get_or column.known.prefixes r 0 < 2 ^ column.known.read
few_digits column r known below =
    let p = get_or column.known.prefixes r 0 in
    let some = (prefixes_are_legal column.ends column.known.read p).has_cell (known.legal r 0 below) in
    subst (λ n. n < 2 ^ column.known.read) some.2 (prefix_small column.ends column.known.read some.0 known.some_read some.1)

-- before any digit they are all of them
pub at_no_digits : (column : KnownColumn) (mask : List Bool) (prefix block : ℕ) (words : List ℕ) → IsKnownColumn column → length mask ≡ rows_of_column column → prefix < 2 ^ column.known.read → length words ≡ 8 →
    rows_of (block_rows (length mask) block) words ≡ block_of block mask → IsPadded (block_rows (length mask) block) words → AreAtDigits column mask prefix block 0 words
at_no_digits column mask prefix block words known long small eight is padded =
    let read = column.known.read in
    let ps = column.known.prefixes in
    let same : length (block_of block mask) ≡ length (block_of block ps) = length_block block mask ∙ ap (λ n. min 512 (n - 512 * block)) long ∙ sym (length_block block ps) in
    record {
      rows = is ∙ sym (all_pass (shares prefix (read - 0)) (block_of block mask) (block_of block ps) same (λ i below.
          let within : i < 512 = omega (arith, below, length_block block ps) in
          let row : 512 * block + i < length ps = omega (arith, below, length_block block ps) in
          let place : get_or (block_of block ps) i 0 ≡ get_or ps (512 * block + i) 0 = get_or-take 512 (drop (512 * block) ps) i 0 within ∙ get_or-drop (512 * block) ps i 0 in
          let all : read - 0 ≡ read = omega arith in
          ap (λ p. shares prefix (read - 0) p) place ∙ ap (λ k. shares prefix k (get_or ps (512 * block + i) 0)) all
          ∙ nothing_left (get_or ps (512 * block + i) 0) (few_digits column (512 * block + i) known row)));
      padded = padded;
      eight = eight;
    }
  where
    same_zero : (x y : ℕ) → x ≡ 0 → y ≡ 0 → (x == y) ≡ true
    same_zero x y e f = grind (arith, nat_tests)

    nothing_left : (p : ℕ) → p < 2 ^ column.known.read → shares prefix column.known.read p ≡ true
    nothing_left p few = same_zero (p / 2 ^ column.known.read) (prefix / 2 ^ column.known.read) (div-eq_of_lt few) (div-eq_of_lt small)

-- with the next digit those that have it
pub at_more_digits : (column : KnownColumn) (mask plane : List Bool) (prefix block j : ℕ) (words bits : List ℕ) (bit : Bool) → length mask ≡ rows_of_column column → j < column.known.read → AreAtDigits column mask prefix block j words →
    length bits ≡ 8 → plane ≡ map (digit_of column.known.read j) column.known.prefixes → bit ≡ digit_of column.known.read j prefix →
    rows_of (block_rows (length plane) block) bits ≡ block_of block plane → IsPadded (block_rows (length plane) block) bits →
    AreAtDigits column mask prefix block (j + 1) (kept_words bit words bits)
at_more_digits column mask plane prefix block j words bits bit long below at eights is digit rows padded =
    let read = column.known.read in
    let ps = column.known.prefixes in
    let n = block_rows (length mask) block in
    let k = read - (j + 1) in
    let same : length plane ≡ length mask = ap length is ∙ length-map ps (digit_of read j) ∙ sym long in
    let padding : IsPadded n bits = subst (λ m. IsPadded (block_rows m block) bits) same padded in
    let digits : rows_of n bits ≡ map (digit_of read j) (block_of block ps) =
    subst (λ m. rows_of (block_rows m block) bits ≡ block_of block plane) same rows ∙ ap (block_of block) is
    ∙ ap (take 512) (drop-map (digit_of read j) (512 * block) ps) ∙ take-map (digit_of read j) 512 (drop (512 * block) ps) in
    let eq : length bits ≡ length words = eights ∙ sym at.eight in
    let before : suc k ≡ read - j = omega (arith, below) in
    record {
      rows = rows_kept bit n words bits eq at.padded padding
          ∙ ap (λ l. zip2 (keeps bit) l (rows_of n bits)) at.rows ∙ ap (zip2 (keeps bit) (rows_with (shares prefix (read - j)) (block_of block mask) (block_of block ps))) digits
          ∙ one_more (keeps bit) (shares prefix (read - j)) (digit_of read j) (shares prefix k) (λ a p.
          ap (λ e. keeps bit (a && shares prefix e p) (digit_of read j p)) (sym before)
          ∙ longer_shared a (digit_of read j p) bit (p / 2 ^ suc k) (prefix / 2 ^ suc k) (p / 2 ^ k) (prefix / 2 ^ k) (halved p k) (halved prefix k ∙ ap (λ b. 2 * (prefix / 2 ^ suc k) + cond b 1 0) (sym digit)))
          (block_of block mask) (block_of block ps);
      padded = padded_kept bit n words bits eq at.padded padding;
      eight = length_kept bit words bits eq ∙ at.eight;
    }

-- ---- counts

count_rows : (test : ℕ → Bool) (mask : List Bool) (ps : List ℕ) → count_by (λ b. b) (rows_with test mask ps) ≡ sum_where mask (map (λ p. cond (test p) 1 0) ps)
count_rows test [] ps = refl
count_rows test (m ∷ mask) [] = refl
count_rows test (m ∷ mask) (p ∷ ps) =
    sum_by-cons (λ b. cond b 1 0) (m && test p) (rows_with test mask ps) ∙ ap (λ n. cond (m && test p) 1 0 + n) (count_rows test mask ps) ∙ ap (λ n. n + sum_where mask (map (λ q. cond (test q) 1 0) ps)) (both m (test p))
  where
    both : (a t : Bool) → ◌≡◌ {A = ℕ} (cond (a && t) 1 0) (cond a (cond t 1 0) 0)
    both true t = refl
    both false t = refl

whole_number : (prefix p : ℕ) → shares prefix 0 p ≡ (p == prefix)
whole_number prefix p = ap (λ x. x == prefix / 1) (div-one p) ∙ ap (λ x. p == x) (div-one prefix)

whole_counts : (prefix : ℕ) (mask : List Bool) (ps : List ℕ) → sum_where mask (map (λ p. cond (shares prefix 0 p) 1 0) ps) ≡ count_at prefix mask ps
whole_counts prefix [] ps = refl
whole_counts prefix (m ∷ mask) [] = refl
whole_counts prefix (m ∷ mask) (p ∷ ps) = ap (λ b. cond m (cond b 1 0) 0 + sum_where mask (map (λ q. cond (shares prefix 0 q) 1 0) ps)) (whole_number prefix p) ∙ ap (λ n. cond m (cond (p == prefix) 1 0) 0 + n) (whole_counts prefix mask ps)

-- after all digits their number is that of the rows at the prefix
pub counted_block : (column : KnownColumn) (mask : List Bool) (prefix block j : ℕ) (words : List ℕ) → column.known.read ≤ j → AreAtDigits column mask prefix block j words →
    sum_by ones words ≡ count_at prefix (block_of block mask) (block_of block column.known.prefixes)
counted_block column mask prefix block j words past at =
    let none : column.known.read - j ≡ 0 = omega (arith, past) in
    sym (count-rows_of (block_rows (length mask) block) words at.padded) ∙ ap (count_by (λ b. b)) at.rows
    ∙ count_rows (shares prefix (column.known.read - j)) (block_of block mask) (block_of block column.known.prefixes)
    ∙ ap (λ k. sum_where (block_of block mask) (map (λ p. cond (shares prefix k p) 1 0) (block_of block column.known.prefixes))) none
    ∙ whole_counts prefix (block_of block mask) (block_of block column.known.prefixes)

pub few_in_block : (mask : List Bool) (block : ℕ) (words : List ℕ) → IsPadded (block_rows (length mask) block) words → length words ≡ 8 → sum_by ones words ≤ 512
few_in_block mask block words padded eight =
    let n = block_rows (length mask) block in
    omega (arith, count-rows_of n words padded, count_by-le-length (λ b. b) (rows_of n words), length-rows_of n words (omega (arith, eight)))
