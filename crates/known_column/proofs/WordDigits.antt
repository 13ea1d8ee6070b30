-- Digits of a block's rows, word by word.
use Rattle.std.proofs.Common.{◌≡◌, ℕ, zero, suc, ◌+◌, ◌*◌, ◌^◌, ◌<◌, ◌≤◌, Bool, List, [], ◌∷◌, All, length, replicate, take, get_or, cond, refl, ap, sym, subst, ◌∙◌, arith, zero-add}
use Rattle.std.specs.List.{fold}
use Rattle.std.specs.Simd.Lanes.{zip2}
use Rattle.std.proofs.Math.Nat.{pow-succ'}
use Rattle.plane_kernels.specs.Rows.{bits_of}
use Rattle.plane_kernels.proofs.RowLemmas.{length-bits_of}
use Rattle.query_model.specs.Knowledge.{longer}
use Rattle.known_column.specs.Columns.{block_rows}
use Rattle.known_column.specs.BlockDigits.{digits_after}
use Rattle.known_column.proofs.BlockSteps.{small-longer, take-bits_of, take-longer}
use Rattle.known_column.proofs.Growing.{length-longer}

pub length-digits_after : (words numbers : List ℕ) → length numbers ≡ 64 → length (digits_after words numbers) ≡ 64
length-digits_after [] numbers e = e
length-digits_after (w ∷ ws) numbers e =
    length-digits_after ws (longer numbers (bits_of 64 w)) (length-longer numbers (bits_of 64 w) (length-bits_of 64 w ∙ sym e) ∙ e)

-- numbers of so many digits have one more for each word
pub small_after : (words numbers : List ℕ) (bound : ℕ) → All (λ n. n < 2 ^ bound) numbers → All (λ n. n < 2 ^ (bound + length words)) (digits_after words numbers)
small_after [] numbers bound small = λ k d below. subst (λ m. get_or numbers k d < 2 ^ m) (omega arith) (small k d below)
small_after (w ∷ ws) numbers bound small = λ k d below.
    subst (λ m. get_or (digits_after ws (longer numbers (bits_of 64 w))) k d < 2 ^ m) (omega arith)
    (small_after ws (longer numbers (bits_of 64 w)) (bound + 1) (small-longer bound numbers (bits_of 64 w) small) k d below)

pub zeros_are_small : (n k d : ℕ) → k < length (replicate {A = ℕ} n 0) → get_or (replicate n 0) k d < 2 ^ 0
zeros_are_small zero k d below = absurd (omega arith)
zeros_are_small (suc n) zero d below = omega arith
zeros_are_small (suc n) (suc k) d below = zeros_are_small n k d (omega arith)

pub fits_after : (words : List ℕ) → All (λ d. d < 2 ^ length words) (digits_after words (replicate 64 0))
fits_after words = λ k d below.
    subst (λ m. get_or (digits_after words (replicate 64 0)) k d < 2 ^ m) (zero-add (length words)) (small_after words (replicate 64 0) 0 (zeros_are_small 64) k d below)

-- ---- digits put behind numbers

joined-longer : (k : ℕ) (ns ds : List ℕ) (bits : List Bool) →
    longer (zip2 (λ n d. n * 2 ^ k + d) ns ds) bits ≡ zip2 (λ n d. n * 2 ^ suc k + d) ns (longer ds bits)
joined-longer k [] ds bits = refl
joined-longer k (n ∷ ns) [] bits = refl
joined-longer k (n ∷ ns) (d ∷ ds) [] = refl
joined-longer k (n ∷ ns) (d ∷ ds) (b ∷ bits) =
    let rest = joined-longer k ns ds bits in
    let twice : 2 ^ suc k ≡ 2 * 2 ^ k = pow-succ' 2 k in
    let here : 2 * (n * 2 ^ k + d) + cond b 1 0 ≡ n * 2 ^ suc k + (2 * d + cond b 1 0) = omega (arith, ap (λ m. n * m) twice) in
    ap (λ m. m ∷ longer (zip2 (λ n d. n * 2 ^ k + d) ns ds) bits) here ∙ ap (λ l. (n * 2 ^ suc k + (2 * d + cond b 1 0)) ∷ l) rest

joined_after : (words : List ℕ) (k : ℕ) (ns ds : List ℕ) → digits_after words (zip2 (λ n d. n * 2 ^ k + d) ns ds) ≡ zip2 (λ n d. n * 2 ^ (k + length words) + d) ns (digits_after words ds)
joined_after [] k ns ds = ap (λ m. zip2 (λ n d. n * 2 ^ m + d) ns ds) (omega arith)
joined_after (w ∷ ws) k ns ds =
    let more : suc k + length ws ≡ k + suc (length ws) = omega arith in
    ap (digits_after ws) (joined-longer k ns ds (bits_of 64 w)) ∙ joined_after ws (suc k) ns (longer ds (bits_of 64 w))
    ∙ ap (λ m. zip2 (λ n d. n * 2 ^ m + d) ns (digits_after ws (longer ds (bits_of 64 w)))) more

none_joined : (ns : List ℕ) → zip2 (λ n d. n * 2 ^ 0 + d) ns (replicate (length ns) 0) ≡ ns
none_joined [] = refl
none_joined (n ∷ ns) =
    let here : n * 1 + 0 ≡ n = omega arith in
    ap (λ m. m ∷ zip2 (λ n d. n * 2 ^ 0 + d) ns (replicate (length ns) 0)) here ∙ ap (λ l. n ∷ l) (none_joined ns)

-- numbers with digits behind them
pub joined_digits : (words ns : List ℕ) (count : ℕ) → length ns ≡ count → digits_after words ns ≡ zip2 (λ n d. n * 2 ^ length words + d) ns (digits_after words (replicate count 0))
joined_digits words ns count e =
    sym (ap (digits_after words) (none_joined ns)) ∙ joined_after words 0 ns (replicate (length ns) 0)
    ∙ ap (λ m. zip2 (λ n d. n * 2 ^ m + d) ns (digits_after words (replicate (length ns) 0))) (zero-add (length words))
    ∙ ap (λ m. zip2 (λ n d. n * 2 ^ length words + d) ns (digits_after words (replicate m 0))) e

-- ---- words of planes

-- the words of a block tell what its planes tell
pub words_of_planes : (block count : ℕ) (planes : List (List Bool)) (words ns : List ℕ) → count ≤ 64 → length words ≡ length planes →
    ((j : ℕ) (none : List Bool) → j < length planes → bits_of count (get_or words j 0) ≡ block_rows block (get_or planes j none)) →
    take count (digits_after words ns) ≡ fold (λ numbers plane. longer numbers (block_rows block plane)) (take count ns) planes
words_of_planes block count [] [] ns few same each = refl
words_of_planes block count [] (w ∷ ws) ns few same each = absurd (omega arith)
words_of_planes block count (p ∷ ps) [] ns few same each = absurd (omega arith)
words_of_planes block count (p ∷ ps) (w ∷ ws) ns few same each =
    words_of_planes block count ps ws (longer ns (bits_of 64 w)) few (omega arith) (λ j none below. each (suc j) none (omega arith))
    ∙ ap (λ l. fold (λ numbers plane. longer numbers (block_rows block plane)) l ps)
    (take-longer count ns (bits_of 64 w) ∙ ap (longer (take count ns)) (take-bits_of count 64 w few ∙ each 0 p (omega arith)))
