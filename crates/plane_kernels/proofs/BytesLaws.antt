-- Which bytes are those of rows.
use Rattle.std.proofs.Common.{◌≡◌, ℕ, zero, suc, ◌-◌, ◌*◌, ◌/◌, ◌^◌, ◌<◌, ◌≤◌, Bool, List, [], ◌∷◌, length, take, drop, get_or, sym, refl, ap, subst, ◌∙◌, arith, inl, inr}
use Rattle.std.proofs.Math.Nat.{pow-le-pow_right}
use Rattle.std.proofs.lemmas.Bool.{cases_lt}
use Rattle.std.proofs.lemmas.List.{length-take}
use Rattle.std.proofs.lemmas.List.Elements.{All-get_or}
use Rattle.std.proofs.lemmas.Simd.{mask_l-lt}
use Rattle.std.specs.List.{All}
use Rattle.plane_kernels.specs.Rows.{rows_of, IsPadded, HoldsRows}
use Rattle.plane_kernels.specs.Bytes.{AreOfOneList, AreOfSomeList, HaveNoPadBits, bytes_of_rows, bytes_of_words, word_count, word_in, word_rows}
use Rattle.plane_kernels.specs.Words.{packed, unpacked}
use Rattle.plane_kernels.proofs.RowLemmas.{length-rows_of}
use Rattle.plane_kernels.proofs.Packing.{length-packed, padded-packed, rows_of-packed}
use Rattle.plane_kernels.proofs.BytesLemmas.{below_padded, bytes-rows_of, bytes-unpacked, get_or-unpacked, length-bytes_of_rows, length-unpacked, padded_words, unpacked-bytes}

words_fit : (c : ℕ) (bits : List Bool) (i : ℕ) → get_or (packed c bits) i 0 < 2 ^ 64
words_fit zero bits i = omega arith
words_fit (suc c) bits zero =
    let few : length (take 64 bits) ≤ 64 = omega (arith, length-take 64 bits) in
    let most : 2 ^ length (take 64 bits) ≤ 2 ^ 64 = pow-le-pow_right (omega arith) few in
    omega (arith, mask_l-lt (take 64 bits), most)
words_fit (suc c) bits (suc i) = words_fit c (drop 64 bits) i

-- the words of the bytes of rows are those that hold them
words_back : (rows : List Bool) → unpacked (word_count (length rows)) (bytes_of_rows rows) ≡ packed (word_count (length rows)) rows
words_back rows =
    let c = word_count (length rows) in
    let ws = packed c rows in
    subst (λ k. unpacked k (bytes_of_words ws) ≡ ws) (length-packed c rows) (unpacked-bytes ws (words_fit c rows))

rows_back : (rows : List Bool) → rows_of (length rows) (unpacked (word_count (length rows)) (bytes_of_rows rows)) ≡ rows
rows_back rows = ap (rows_of (length rows)) (words_back rows) ∙ rows_of-packed (word_count (length rows)) rows (omega arith)

zero_past : (bytes : List ℕ) (i : ℕ) → length bytes ≤ i → get_or bytes i 0 ≡ 0
zero_past [] i h = refl
zero_past (x ∷ bytes) zero h = absurd (omega (arith, h))
zero_past (x ∷ bytes) (suc i) h = zero_past bytes i (omega (arith, h))

small_at : (bytes : List ℕ) → All (λ byte. byte < 256) bytes → (i : ℕ) → get_or bytes i 0 < 256
small_at bytes small i = elim (cases_lt i (length bytes)) [
  | inl low ↦ All-get_or (λ byte. byte < 256) bytes i 0 low small
  | inr high ↦ omega (arith, zero_past bytes i high)
]

pub of_one_list : AreOfOneList
of_one_list rows others long same =
    sym (rows_back others) ∙ ap (λ n. rows_of n (unpacked (word_count n) (bytes_of_rows others))) long
    ∙ ap (λ l. rows_of (length rows) (unpacked (word_count (length rows)) l)) same ∙ rows_back rows

pub of_some_list : AreOfSomeList
of_some_list count bytes long small none =
    let c = word_count count in
    let ws = unpacked c bytes in
    let words : length bytes / 8 ≡ c = omega (arith, long) in
    let all : count - 64 * 0 ≡ count = omega arith in
    let padded : IsPadded count ws = subst (λ k. IsPadded count (unpacked k bytes)) words (subst (λ m. IsPadded m (unpacked (length bytes / 8) bytes)) all (padded_words count 0 bytes none)) in
    let held : HoldsRows count ws = record { room = omega (arith, length-unpacked c bytes); tight = omega (arith, length-unpacked c bytes); padded = padded } in
    (rows_of count ws, length-rows_of count ws held.room, bytes-rows_of count ws held ∙ bytes-unpacked c bytes long (small_at bytes small))

pub have_no_pad_bits : HaveNoPadBits
have_no_pad_bits rows word pad =
    let c = word_count (length rows) in
    let ws = packed c rows in
    let within : word < c = omega (arith, pad.within, length-bytes_of_rows rows) in
    let long = length-packed c rows in
    let place : word - 0 ≡ word = omega arith in
    let is : get_or ws word 0 ≡ word_in (bytes_of_rows rows) word = sym (ap (λ l. get_or l word 0) (words_back rows)) ∙ get_or-unpacked c (bytes_of_rows rows) word within in
    let low = below_padded (length rows) ws word (padded-packed c (length rows) rows refl) (omega (arith, long, within)) in
    let past = subst (λ k. 2 ^ word_rows (length rows) word ≤ word_in (bytes_of_rows rows) k) place pad.past in
    absurd (omega (arith, is, low, past))
