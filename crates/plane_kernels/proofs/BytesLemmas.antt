-- Bytes, the words that they are, and the rows of these.
use Rattle.std.proofs.Common.{◌≡◌, ℕ, zero, suc, ◌+◌, ◌-◌, ◌*◌, ◌/◌, ◌%◌, ◌^◌, ◌<◌, ◌≤◌, min, Bool, List, [], ◌∷◌, ◌++◌, length, take, drop, get_or, sym, refl, ap, subst, ◌∙◌, arith, inl, inr, length-append, length-drop, take-append-drop}
use Rattle.std.proofs.Math.Nat.{mod-lt}
use Rattle.std.proofs.lemmas.Bool.{cases_lt}
use Rattle.std.proofs.lemmas.List.{append-nil, drop-drop, drop_all, drop_at, length-take-le, nil_from_length, take_all, take_at}
use Rattle.std.proofs.lemmas.Nat.{from_le_bytes-to_le_bytes_8, le_bytes_8}
use Rattle.std.proofs.lemmas.Simd.{put_chunk_whole}
use Rattle.std.specs.Int.{w64, from_le_bytes, to_le_bytes}
use Rattle.std.specs.Simd.Lanes.{mask_l, put_chunk}
use Rattle.plane_kernels.specs.Rows.{bits_of, rows_of, IsPadded, HoldsRows}
use Rattle.plane_kernels.specs.Bytes.{HasNoPadBits, bytes_of_rows, bytes_of_words, word_count, word_in, word_rows}
use Rattle.plane_kernels.specs.Words.{packed, unpacked}
use Rattle.plane_kernels.proofs.Packing.{length-packed}
use Rattle.plane_kernels.proofs.RowLemmas.{half_lt, length-bits_of, length-rows_of, lowest_as_number}
use Rattle.plane_kernels.proofs.Puts.{none_left, put_behind, put_front, put_none}

-- ---- words of bytes

pub length-unpacked : (n : ℕ) (bytes : List ℕ) → length (unpacked n bytes) ≡ n
length-unpacked zero bytes = refl
length-unpacked (suc n) bytes = ap suc (length-unpacked n (drop 8 bytes))

pub get_or-unpacked : (n : ℕ) (bytes : List ℕ) (i : ℕ) → i < n → get_or (unpacked n bytes) i 0 ≡ word_in bytes i
get_or-unpacked zero bytes i h = absurd (omega (arith, h))
get_or-unpacked (suc n) bytes zero h = refl
get_or-unpacked (suc n) bytes (suc i) h =
    let at : 8 + 8 * i ≡ 8 * suc i = omega arith in
    get_or-unpacked n (drop 8 bytes) i (omega (arith, h)) ∙ ap (λ l. from_le_bytes w64 (take 8 l)) (drop-drop (8 * i) 8 bytes ∙ ap (λ k. drop k bytes) at)

-- words of which each is short enough
pub padded_from : (n : ℕ) (ws : List ℕ) → ((i : ℕ) → i < length ws → get_or ws i 0 < 2 ^ min (n - 64 * i) 64) → IsPadded n ws
padded_from n [] below = tt
padded_from n (w ∷ ws) below =
    let all : n - 64 * 0 ≡ n = omega arith in (
      subst (λ m. w < 2 ^ min m 64) all (below 0 (omega arith)),
      padded_from (n - 64) ws (λ i h. let left : n - 64 * suc i ≡ n - 64 - 64 * i = omega arith in subst (λ m. get_or ws i 0 < 2 ^ min m 64) left (below (suc i) (omega (arith, h)))),
    )

pub below_padded : (n : ℕ) (ws : List ℕ) (i : ℕ) → IsPadded n ws → i < length ws → get_or ws i 0 < 2 ^ min (n - 64 * i) 64
below_padded n [] i p h = absurd (omega (arith, h))
below_padded n (w ∷ ws) zero p h = (let all : n ≡ n - 64 * 0 = omega arith in subst (λ m. w < 2 ^ min m 64) all p.0)
below_padded n (w ∷ ws) (suc i) p h =
    let left : n - 64 - 64 * i ≡ n - 64 * suc i = omega arith in
    subst (λ m. get_or ws i 0 < 2 ^ min m 64) left (below_padded (n - 64) ws i p.1 (omega (arith, h)))

-- the words of bytes without pad bits
pub padded_words : (rows first : ℕ) (bytes : List ℕ) → HasNoPadBits rows first bytes → IsPadded (rows - 64 * first) (unpacked (length bytes / 8) bytes)
padded_words rows first bytes none =
    padded_from (rows - 64 * first) (unpacked (length bytes / 8) bytes) (λ i h.
    let long = length-unpacked (length bytes / 8) bytes in
    let within : i < length bytes / 8 = omega (arith, long, h) in
    let left : rows - 64 * (first + i) ≡ rows - 64 * first - 64 * i = omega arith in
    let place : first + i - first ≡ i = omega arith in
    let word = get_or-unpacked (length bytes / 8) bytes i within in
    elim (cases_lt (word_in bytes i) (2 ^ min (rows - 64 * first - 64 * i) 64)) [
      | inl low ↦ omega (arith, word, low)
      | inr high ↦ absurd (none (first + i) (record {
        from = omega arith;
        within = omega (arith, within);
        past = subst (λ k. 2 ^ word_rows rows (first + i) ≤ word_in bytes k) (sym place) (subst (λ m. 2 ^ min m 64 ≤ word_in bytes i) (sym left) high);
      }))
    ])

-- ---- bytes of words

pub length-bytes : (ws : List ℕ) → length (bytes_of_words ws) ≡ 8 * length ws
length-bytes [] = refl
length-bytes (w ∷ ws) = omega (arith, length-append (to_le_bytes w64 w) (bytes_of_words ws), length-bytes ws)

small-take : (n : ℕ) (bytes : List ℕ) → ((i : ℕ) → get_or bytes i 0 < 256) → (i : ℕ) → get_or (take n bytes) i 0 < 256
small-take zero bytes small i = omega arith
small-take (suc n) [] small i = small i
small-take (suc n) (b ∷ bytes) small zero = small 0
small-take (suc n) (b ∷ bytes) small (suc i) = small-take n bytes (λ j. small (suc j)) i

small-drop : (n : ℕ) (bytes : List ℕ) → ((i : ℕ) → get_or bytes i 0 < 256) → (i : ℕ) → get_or (drop n bytes) i 0 < 256
small-drop zero bytes small i = small i
small-drop (suc n) [] small i = small i
small-drop (suc n) (b ∷ bytes) small i = small-drop n bytes (λ j. small (suc j)) i

-- bytes are those of their words
pub bytes-unpacked : (n : ℕ) (bytes : List ℕ) → length bytes ≡ 8 * n → ((i : ℕ) → get_or bytes i 0 < 256) → bytes_of_words (unpacked n bytes) ≡ bytes
bytes-unpacked zero bytes long small = sym (nil_from_length bytes (omega (arith, long)))
bytes-unpacked (suc n) bytes long small =
    let front : to_le_bytes w64 (from_le_bytes w64 (take 8 bytes)) ≡ take 8 bytes = le_bytes_8 (take 8 bytes) (from_le_bytes w64 (take 8 bytes)) (length-take-le 8 bytes (omega (arith, long))) (small-take 8 bytes small) refl in
    ap (λ l. l ++ bytes_of_words (unpacked n (drop 8 bytes))) front
    ∙ ap (λ l. take 8 bytes ++ l) (bytes-unpacked n (drop 8 bytes) (omega (arith, length-drop 8 bytes, long)) (small-drop 8 bytes small))
    ∙ take-append-drop 8 bytes

-- words are those of their bytes
pub unpacked-bytes : (ws : List ℕ) → ((i : ℕ) → get_or ws i 0 < 2 ^ 64) → unpacked (length ws) (bytes_of_words ws) ≡ ws
unpacked-bytes [] small = refl
unpacked-bytes (w ∷ ws) small =
    let eight = to_le_bytes w64 w in
    ap (λ l. from_le_bytes w64 l ∷ unpacked (length ws) (drop 8 (eight ++ bytes_of_words ws))) (take_at eight (bytes_of_words ws) 8 refl)
    ∙ ap (λ v. v ∷ unpacked (length ws) (drop 8 (eight ++ bytes_of_words ws))) (from_le_bytes-to_le_bytes_8 w (small 0))
    ∙ ap (λ l. w ∷ unpacked (length ws) l) (drop_at eight (bytes_of_words ws) 8 refl)
    ∙ ap (λ l. w ∷ l) (unpacked-bytes ws (λ i. small (suc i)))

-- words that are put are bytes that are put
bytes-put_front : (ws vs : List ℕ) → bytes_of_words (put_chunk 0 ws vs) ≡ put_chunk 0 (bytes_of_words ws) (bytes_of_words vs)
bytes-put_front [] vs = refl
bytes-put_front (w ∷ ws) [] = sym (put_none 0 (bytes_of_words (w ∷ ws)))
bytes-put_front (w ∷ ws) (v ∷ vs) =
    ap (λ l. to_le_bytes w64 v ++ l) (bytes-put_front ws vs) ∙ sym (put_front (to_le_bytes w64 w) (to_le_bytes w64 v) (bytes_of_words ws) (bytes_of_words vs) refl)

pub bytes-put : (q : ℕ) (ws vs : List ℕ) → bytes_of_words (put_chunk q ws vs) ≡ put_chunk (8 * q) (bytes_of_words ws) (bytes_of_words vs)
bytes-put q [] vs = refl
bytes-put zero (w ∷ ws) vs =
    let start : 8 * 0 ≡ 0 = omega arith in
    bytes-put_front (w ∷ ws) vs ∙ ap (λ i. put_chunk i (bytes_of_words (w ∷ ws)) (bytes_of_words vs)) (sym start)
bytes-put (suc q) (w ∷ ws) vs =
    let eight = to_le_bytes w64 w in
    let at : 8 + 8 * q ≡ 8 * suc q = omega arith in
    ap (λ l. eight ++ l) (bytes-put q ws vs) ∙ sym (put_behind eight (bytes_of_words ws) (bytes_of_words vs) (8 * q))
    ∙ ap (λ i. put_chunk i (bytes_of_words (w ∷ ws)) (bytes_of_words vs)) at

-- ---- bytes of rows

mask_l-bits_of : (k w : ℕ) → w < 2 ^ k → mask_l (bits_of k w) ≡ w
mask_l-bits_of zero w h = omega (arith, h)
mask_l-bits_of (suc k) w h =
    let low = lowest_as_number (w % 2) (mod-lt w (omega arith)) in
    let rest = mask_l-bits_of k (w / 2) (half_lt k w h) in
    omega (arith, low, rest)

packed-rows_of : (n : ℕ) (ws : List ℕ) → IsPadded n ws → n ≤ 64 * length ws → 64 * length ws < n + 64 → packed (length ws) (rows_of n ws) ≡ ws
packed-rows_of n [] p room tight = refl
packed-rows_of n (w ∷ ws) p room tight =
    let first = bits_of (min n 64) w in
    let rest = rows_of (n - 64) ws in
    let long = length-bits_of (min n 64) w in
    let parts : (take 64 (first ++ rest) ≡ first) × (drop 64 (first ++ rest) ≡ rest) = elim (cases_lt n 64) [
      | inl low ↦
          let none : rest ≡ [] = none_left n ws (omega (arith, low)) in (
            ap (λ l. take 64 (first ++ l)) none ∙ ap (take 64) (append-nil first) ∙ take_all 64 first (omega (arith, long)),
            ap (λ l. drop 64 (first ++ l)) none ∙ ap (drop 64) (append-nil first) ∙ drop_all 64 first (omega (arith, long)) ∙ sym none,
          )
      | inr high ↦ (take_at first rest 64 (omega (arith, long, high)), drop_at first rest 64 (omega (arith, long, high)))
    ] in
    ap (λ l. mask_l l ∷ packed (length ws) (drop 64 (first ++ rest))) parts.0 ∙ ap (λ v. v ∷ packed (length ws) (drop 64 (first ++ rest))) (mask_l-bits_of (min n 64) w p.0)
    ∙ ap (λ l. w ∷ packed (length ws) l) parts.1 ∙ ap (λ l. w ∷ l) (packed-rows_of (n - 64) ws p.1 (omega (arith, room)) (omega (arith, tight)))

-- the bytes of rows are those of the words that hold them
pub bytes-rows_of : (n : ℕ) (ws : List ℕ) → HoldsRows n ws → bytes_of_rows (rows_of n ws) ≡ bytes_of_words ws
bytes-rows_of n ws p =
    let long = length-rows_of n ws p.room in
    let count : word_count (length (rows_of n ws)) ≡ length ws = omega (arith, long, p.room, p.tight) in
    ap (λ k. bytes_of_words (packed k (rows_of n ws))) count ∙ ap bytes_of_words (packed-rows_of n ws p.padded p.room p.tight)

pub length-bytes_of_rows : (rows : List Bool) → length (bytes_of_rows rows) ≡ 8 * word_count (length rows)
length-bytes_of_rows rows = length-bytes (packed (word_count (length rows)) rows) ∙ ap (λ n. 8 * n) (length-packed (word_count (length rows)) rows)

-- where all bytes are put, no other is left
pub put_all : (rows : List Bool) (bytes : List ℕ) → length bytes ≡ 8 * word_count (length rows) → put_chunk (8 * 0) (bytes_of_rows rows) bytes ≡ bytes
put_all rows bytes long =
    let start : 8 * 0 ≡ 0 = omega arith in
    ap (λ i. put_chunk i (bytes_of_rows rows) bytes) start ∙ put_chunk_whole (bytes_of_rows rows) bytes (length-bytes_of_rows rows ∙ sym long)
