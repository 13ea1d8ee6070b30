-- The rows of a plane's bytes.
use Rattle.std.proofs.Common.{◌≡◌, ℕ, ◌-◌, ◌*◌, ◌^◌, ◌<◌, ◌≤◌, min, Bool, List, length, get_or, refl, ap, subst, ◌∙◌, arith, inl, inr, [], ◌∷◌, zero, suc}
use Rattle.std.proofs.Math.Nat.{pow-le-pow_right}
use Rattle.std.proofs.lemmas.Bool.{cases_lt}
use Rattle.plane_kernels.specs.Bytes.{bytes_of_rows, bytes_of_words, word_count}
use Rattle.plane_kernels.specs.Rows.{rows_of}
use Rattle.plane_kernels.specs.Words.{packed, unpacked}
use Rattle.plane_kernels.proofs.BytesLemmas.{below_padded, length-unpacked, unpacked-bytes}
use Rattle.plane_kernels.proofs.Packing.{length-packed, padded-packed, rows_of-packed}
use Rattle.plane_kernels.proofs.RowLemmas.{length-rows_of}
use Rattle.plane_course.specs.Told.{rows_in}

zero_past : (xs : List ℕ) (i : ℕ) → length xs ≤ i → get_or xs i 0 ≡ 0
zero_past [] i h = refl
zero_past (x ∷ xs) zero h = absurd (omega (arith, h))
zero_past (x ∷ xs) (suc i) h = zero_past xs i (omega (arith, h))

-- packed rows are words
words_fit : (rows : List Bool) (i : ℕ) → get_or (packed (word_count (length rows)) rows) i 0 < 2 ^ 64
words_fit rows i =
    let ws = packed (word_count (length rows)) rows in
    elim (cases_lt i (length ws)) [
      | inl low ↦
          (let below = below_padded (length rows) ws i (padded-packed (word_count (length rows)) (length rows) rows refl) low in
          let few : min (length rows - 64 * i) 64 ≤ 64 = omega arith in
          let most : 2 ^ min (length rows - 64 * i) 64 ≤ 2 ^ 64 = pow-le-pow_right (omega arith) few in
          omega (arith, below, most))
      | inr high ↦ omega (arith, zero_past ws i high)
    ]

-- the rows of the bytes of rows are these rows
pub rows_back : (rows : List Bool) → rows_in (length rows) (bytes_of_rows rows) ≡ rows
rows_back rows =
    let c = word_count (length rows) in
    let ws = packed c rows in
    let words = subst (λ k. unpacked k (bytes_of_words ws) ≡ ws) (length-packed c rows) (unpacked-bytes ws (words_fit rows)) in
    ap (rows_of (length rows)) words ∙ rows_of-packed c rows (omega arith)

-- there are as many as asked for
pub length-rows_in : (rows : ℕ) (bytes : List ℕ) → length (rows_in rows bytes) ≡ rows
length-rows_in rows bytes = length-rows_of rows (unpacked (word_count rows) bytes) (omega (arith, length-unpacked (word_count rows) bytes))
