-- Blocks of eight words and the rows that they have.
use Rattle.std.proofs.Common.{◌≡◌, ℕ, zero, suc, ◌+◌, ◌-◌, ◌*◌, ◌^◌, ◌<◌, ◌≤◌, min, Bool, List, [], ◌∷◌, ◌++◌, length, take, drop, get_or, replicate, sym, refl, ap, subst, ◌∙◌, arith, inl, inr, length-append, length-drop, append_assoc}
use Rattle.std.proofs.lemmas.Bool.{cases_lt}
use Rattle.std.proofs.lemmas.List.{append-nil, drop_all, length-take, take_all, take-replicate}
use Rattle.std.proofs.lemmas.Nat.{pow_pos}
use Rattle.std.proofs.lemmas.Nat.Bits.{bit_at_and, bit_at-lt, bit_at_ones}
use Rattle.std.specs.Int.{bit_at}
use Rattle.std.specs.Int.Bits.{bit_and, mask_lt}
use Rattle.std.specs.Simd.Lanes.{put_chunk, zip2}
use Rattle.plane_kernels.specs.Rows.{bits_of, rows_of, block_rows, IsPadded, HoldsRows}
use Rattle.plane_kernels.specs.Words.{trimmed}
use Rattle.plane_kernels.proofs.RowLemmas.{length-bits_of, same-bits_of}
use Rattle.plane_kernels.proofs.Puts.{ArePut, none_left, rows_of-none}

-- ---- parts of words

pub rows_of-append : (n : ℕ) (ws vs : List ℕ) → rows_of n (ws ++ vs) ≡ rows_of n ws ++ rows_of (n - 64 * length ws) vs
rows_of-append n [] vs = (let all : n ≡ n - 64 * 0 = omega arith in ap (λ m. rows_of m vs) all)
rows_of-append n (w ∷ ws) vs =
    let first = bits_of (min n 64) w in
    let left : n - 64 - 64 * length ws ≡ n - 64 * suc (length ws) = omega arith in
    ap (λ l. first ++ l) (rows_of-append (n - 64) ws vs ∙ ap (λ m. rows_of (n - 64) ws ++ rows_of m vs) left)
    ∙ sym (append_assoc first (rows_of (n - 64) ws) (rows_of (n - 64 * suc (length ws)) vs))

-- the rows of so many words
take-rows_of : (k n : ℕ) (ws : List ℕ) → take (64 * k) (rows_of n ws) ≡ rows_of n (take k ws)
take-rows_of k n [] = take_all (64 * k) [] (omega arith) ∙ ap (rows_of n) (sym (take_all k [] (omega arith)))
take-rows_of zero n (w ∷ ws) = (let none : 64 * 0 ≡ 0 = omega arith in ap (λ k. take k (rows_of n (w ∷ ws))) none)
take-rows_of (suc k) n (w ∷ ws) =
    let first = bits_of (min n 64) w in
    let rest = rows_of (n - 64) ws in
    let long = length-bits_of (min n 64) w in
    elim (cases_lt n 64) [
      | inl low ↦
          let none : rest ≡ [] = none_left n ws (omega (arith, low)) in
          take_all (64 * suc k) (first ++ rest) (omega (arith, low, long, length-append first rest, ap length none))
          ∙ ap (λ l. first ++ l) (none ∙ sym (none_left n (take k ws) (omega (arith, low))))
      | inr high ↦ take_front first rest (64 * k) (64 * suc k) (omega (arith, long, high)) ∙ ap (λ l. first ++ l) (take-rows_of k (n - 64) ws)
    ]
  where
    take_front : (xs ys : List Bool) (i k : ℕ) → k ≡ length xs + i → take k (xs ++ ys) ≡ xs ++ take i ys
    take_front [] ys i k e = ap (λ m. take m ys) (omega (arith, e))
    take_front (x ∷ xs) ys i zero e = absurd (omega (arith, e))
    take_front (x ∷ xs) ys i (suc k) e = ap (λ l. x ∷ l) (take_front xs ys i k (omega (arith, e)))

-- the rows from a word on
drop-rows_of : (k n : ℕ) (ws : List ℕ) → drop (64 * k) (rows_of n ws) ≡ rows_of (n - 64 * k) (drop k ws)
drop-rows_of k n [] = drop_all (64 * k) [] (omega arith) ∙ ap (rows_of (n - 64 * k)) (sym (drop_all k [] (omega arith)))
drop-rows_of zero n (w ∷ ws) =
    let none : 64 * 0 ≡ 0 = omega arith in
    let all : n ≡ n - 64 * 0 = omega arith in
    ap (λ k. drop k (rows_of n (w ∷ ws))) none ∙ ap (λ m. rows_of m (w ∷ ws)) all
drop-rows_of (suc k) n (w ∷ ws) =
    let first = bits_of (min n 64) w in
    let rest = rows_of (n - 64) ws in
    let long = length-bits_of (min n 64) w in
    let left : n - 64 - 64 * k ≡ n - 64 * suc k = omega arith in
    elim (cases_lt n 64) [
      | inl low ↦
          let none : rest ≡ [] = none_left n ws (omega (arith, low)) in
          let past : n - 64 * suc k ≡ 0 = omega (arith, low) in
          drop_all (64 * suc k) (first ++ rest) (omega (arith, low, long, length-append first rest, ap length none))
          ∙ sym (ap (λ m. rows_of m (drop k ws)) past ∙ rows_of-none (drop k ws))
      | inr high ↦ drop_front first rest (64 * k) (64 * suc k) (omega (arith, long, high)) ∙ drop-rows_of k (n - 64) ws ∙ ap (λ m. rows_of m (drop k ws)) left
    ]
  where
    drop_front : (xs ys : List Bool) (i k : ℕ) → k ≡ length xs + i → drop k (xs ++ ys) ≡ drop i ys
    drop_front [] ys i k e = ap (λ m. drop m ys) (omega (arith, e))
    drop_front (x ∷ xs) ys i zero e = absurd (omega (arith, e))
    drop_front (x ∷ xs) ys i (suc k) e = drop_front xs ys i k (omega (arith, e))

-- rows past the last word are none
rows_of-few : (k n : ℕ) (ws : List ℕ) → length ws ≤ k → rows_of (min (64 * k) n) ws ≡ rows_of n ws
rows_of-few k n [] h = refl
rows_of-few zero n (w ∷ ws) h = absurd (omega (arith, h))
rows_of-few (suc k) n (w ∷ ws) h =
    let size : min (min (64 * suc k) n) 64 ≡ min n 64 = omega arith in
    let left : min (64 * suc k) n - 64 ≡ min (64 * k) (n - 64) = omega arith in
    ap (λ m. bits_of m w ++ rows_of (min (64 * suc k) n - 64) ws) size ∙ ap (λ m. bits_of (min n 64) w ++ rows_of m ws) left
    ∙ ap (λ l. bits_of (min n 64) w ++ l) (rows_of-few k (n - 64) ws (omega (arith, h)))

padded-few : (k n : ℕ) (ws : List ℕ) → length ws ≤ k → IsPadded n ws → IsPadded (min (64 * k) n) ws
padded-few k n [] h p = tt
padded-few zero n (w ∷ ws) h p = absurd (omega (arith, h))
padded-few (suc k) n (w ∷ ws) h p =
    let size : min n 64 ≡ min (min (64 * suc k) n) 64 = omega arith in
    let left : min (64 * k) (n - 64) ≡ min (64 * suc k) n - 64 = omega arith in
    (subst (λ m. w < 2 ^ m) size p.0, subst (λ m. IsPadded m ws) left (padded-few k (n - 64) ws (omega (arith, h)) p.1))

padded-drop : (k n : ℕ) (ws : List ℕ) → IsPadded n ws → IsPadded (n - 64 * k) (drop k ws)
padded-drop k n [] p = subst (IsPadded (n - 64 * k)) (sym (drop_all k [] (omega arith))) tt
padded-drop zero n (w ∷ ws) p = (let all : n ≡ n - 64 * 0 = omega arith in subst (λ m. IsPadded m (w ∷ ws)) all p)
padded-drop (suc k) n (w ∷ ws) p = (let left : n - 64 - 64 * k ≡ n - 64 * suc k = omega arith in subst (λ m. IsPadded m (drop k ws)) left (padded-drop k (n - 64) ws p.1))

pub padded-zeros : (m n : ℕ) → IsPadded n (replicate m 0)
padded-zeros zero n = tt
padded-zeros (suc m) n = (pow_pos (min n 64), padded-zeros m (n - 64))

pub padded-filled : (m n : ℕ) (ws : List ℕ) → IsPadded n ws → IsPadded n (ws ++ replicate m 0)
padded-filled m n [] p = padded-zeros m n
padded-filled m n (w ∷ ws) p = (p.0, padded-filled m (n - 64) ws p.1)

padded-take : (k n : ℕ) (ws : List ℕ) → IsPadded n ws → IsPadded n (take k ws)
padded-take k n [] p = subst (IsPadded n) (sym (take_all k [] (omega arith))) tt
padded-take zero n (w ∷ ws) p = tt
padded-take (suc k) n (w ∷ ws) p = (p.0, padded-take k (n - 64) ws p.1)

-- ---- the words of a block

-- the words that there are, and zeros in the place of the others
filled : (m z : ℕ) (rest : List ℕ) (count : ℕ) → m ≤ z → count ≡ min (length rest) m → take count rest ++ drop count (replicate m 0) ≡ take m (rest ++ replicate z 0)
filled m z [] zero h e = sym (take-replicate m z 0 h)
filled m z [] (suc count) h e = absurd (omega (arith, e))
filled zero z (w ∷ rest) zero h e = refl
filled zero z (w ∷ rest) (suc count) h e = absurd (omega (arith, e))
filled (suc m) z (w ∷ rest) zero h e = absurd (omega (arith, e))
filled (suc m) z (w ∷ rest) (suc count) h e = ap (λ l. w ∷ l) (filled m z rest count (omega (arith, h)) (omega (arith, e)))

-- as the code fills them in
pub filled_eight : (ws new : List ℕ) (count : ℕ) → count ≡ min (length ws) 8 → new ≡ take count ws → new ++ drop count (replicate 8 0) ≡ take 8 (ws ++ replicate 8 0)
filled_eight ws new count e is = ap (λ l. l ++ drop count (replicate 8 0)) is ∙ filled 8 8 ws count (omega arith) e

-- eight words that have these rows
pub record HaveBlock (n block : ℕ) (ws eight : List ℕ) : Type 0 where
  pub rows : rows_of (block_rows n block) eight ≡ take 512 (drop (512 * block) (rows_of n ws))
  pub padded : IsPadded (block_rows n block) eight

pub have_block : (n block : ℕ) (ws : List ℕ) → HoldsRows n ws → HaveBlock n block ws (take 8 (drop (8 * block) ws ++ replicate 8 0))
have_block n block ws p =
    let rest = drop (8 * block) ws in
    let eight = take 8 (rest ++ replicate 8 0) in
    let left = n - 512 * block in
    let at : 64 * (8 * block) ≡ 512 * block = omega arith in
    let few : length eight ≤ 8 = omega (arith, length-take 8 (rest ++ replicate 8 0)) in
    let enough : left - 64 * length rest ≡ 0 = omega (arith, length-drop (8 * block) ws, p.room) in
    let filled : rows_of left (rest ++ replicate 8 0) ≡ rows_of left rest =
    rows_of-append left rest (replicate 8 0) ∙ ap (λ m. rows_of left rest ++ rows_of m (replicate 8 0)) enough ∙ ap (λ l. rows_of left rest ++ l) (rows_of-none (replicate 8 0)) ∙ append-nil (rows_of left rest) in
    let dropped : rows_of left rest ≡ drop (512 * block) (rows_of n ws) = sym (drop-rows_of (8 * block) n ws ∙ ap (λ k. rows_of (n - k) rest) at) ∙ ap (λ k. drop k (rows_of n ws)) at in
    record {
      rows = rows_of-few 8 left eight few ∙ sym (take-rows_of 8 left (rest ++ replicate 8 0)) ∙ ap (take 512) (filled ∙ dropped);
      padded = padded-few 8 left eight few (padded-take 8 left (rest ++ replicate 8 0) (padded-filled 8 left rest (subst (λ k. IsPadded (n - k) rest) at (padded-drop (8 * block) n ws p.padded))));
    }

-- ---- words without bits past the last row

pub length-trimmed : (n : ℕ) (ws : List ℕ) → length (trimmed n ws) ≡ length ws
length-trimmed n [] = refl
length-trimmed n (w ∷ ws) = ap suc (length-trimmed (n - 64) ws)

-- of eight words all of whose bits stand for rows none is taken away
pub trimmed-whole : (m n : ℕ) (ws : List ℕ) → length ws ≡ m → 64 * m ≤ n → zip2 bit_and ws (replicate m (2 ^ 64 - 1)) ≡ trimmed n ws
trimmed-whole m n [] h k = refl
trimmed-whole zero n (w ∷ ws) h k = absurd (omega (arith, h))
trimmed-whole (suc m) n (w ∷ ws) h k =
    let size : 64 ≡ min n 64 = omega (arith, k) in
    ap (λ l. bit_and w (2 ^ 64 - 1) ∷ l) (trimmed-whole m (n - 64) ws (omega (arith, h)) (omega (arith, k))) ∙ ap (λ k. bit_and w (2 ^ k - 1) ∷ trimmed (n - 64) ws) size

pub get_or-trimmed : (n : ℕ) (ws : List ℕ) (i : ℕ) → i < length ws → get_or (trimmed n ws) i 0 ≡ bit_and (get_or ws i 0) (2 ^ min (n - 64 * i) 64 - 1)
get_or-trimmed n [] i h = absurd (omega (arith, h))
get_or-trimmed n (w ∷ ws) zero h = (let all : n ≡ n - 64 * 0 = omega arith in ap (λ m. bit_and w (2 ^ min m 64 - 1)) all)
get_or-trimmed n (w ∷ ws) (suc i) h =
    let left : n - 64 - 64 * i ≡ n - 64 * suc i = omega arith in
    get_or-trimmed (n - 64) ws i (omega (arith, h)) ∙ ap (λ m. bit_and (get_or ws i 0) (2 ^ min m 64 - 1)) left

bits_of-trimmed : (k w : ℕ) → bits_of k (bit_and w (2 ^ k - 1)) ≡ bits_of k w
bits_of-trimmed k w = same-bits_of k w (bit_and w (2 ^ k - 1)) (λ j h.
    let one = bit_at_ones k j h in
    let small = bit_at-lt w j in
    let both : min (bit_at w j) (bit_at (2 ^ k - 1) j) ≡ bit_at w j = ap (min (bit_at w j)) one ∙ omega (arith, small) in
    bit_at_and w (2 ^ k - 1) j ∙ both)

rows_of-trimmed : (n : ℕ) (ws : List ℕ) → rows_of n (trimmed n ws) ≡ rows_of n ws
rows_of-trimmed n [] = refl
rows_of-trimmed n (w ∷ ws) =
    ap (λ l. l ++ rows_of (n - 64) (trimmed (n - 64) ws)) (bits_of-trimmed (min n 64) w) ∙ ap (λ l. bits_of (min n 64) w ++ l) (rows_of-trimmed (n - 64) ws)

pub padded-trimmed : (n : ℕ) (ws : List ℕ) → IsPadded n (trimmed n ws)
padded-trimmed n [] = tt
padded-trimmed n (w ∷ ws) = (mask_lt w (min n 64), padded-trimmed (n - 64) ws)

-- the rows of one word
pub word_rows_of : (n w : ℕ) → rows_of n (trimmed n (w ∷ [])) ≡ bits_of (min 64 n) w
word_rows_of n w =
    let size : min n 64 ≡ min 64 n = omega arith in
    append-nil (bits_of (min n 64) (bit_and w (2 ^ min n 64 - 1))) ∙ bits_of-trimmed (min n 64) w ∙ ap (λ k. bits_of k w) size

pub padded_block : (n block : ℕ) (eight : List ℕ) → IsPadded (n - 64 * (8 * block)) (trimmed (n - 512 * block) eight)
padded_block n block eight =
    let at : 512 * block ≡ 64 * (8 * block) = omega arith in
    subst (λ k. IsPadded (n - k) (trimmed (n - 512 * block) eight)) at (padded-trimmed (n - 512 * block) eight)

-- the rows once the words of a block are put
pub put_block : (n block : ℕ) (ws eight us : List ℕ) → length eight ≡ 8 → ArePut n (8 * block) ws (trimmed (n - 512 * block) eight) us
    → rows_of n us ≡ put_chunk (512 * block) (rows_of n ws) (rows_of (block_rows n block) eight)
put_block n block ws eight us long put =
    let at : 64 * (8 * block) ≡ 512 * block = omega arith in
    let left = n - 512 * block in
    put.rows ∙ ap (λ k. put_chunk k (rows_of n ws) (rows_of (n - k) (trimmed left eight))) at
    ∙ ap (put_chunk (512 * block) (rows_of n ws)) (rows_of-trimmed left eight ∙ sym (rows_of-few 8 left eight (omega (arith, long))))
