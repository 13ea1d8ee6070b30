-- Bits of the rows of a block.
use Rattle.std.proofs.Common.{◌≡◌, ℕ, zero, suc, ◌+◌, ◌-◌, ◌*◌, ◌/◌, ◌%◌, ◌^◌, ◌<◌, ◌==◌, replicate, Bool, true, false, not, ◌&&◌, ◌||◌, List, length, take, drop, get_or, slice_get, count_by, sum_by, Some, refl, ap, sym, ◌∙◌, arith}
use Rattle.std.specs.Int.{bit_at}
use Rattle.std.specs.Int.Count.{ones}
use Rattle.std.specs.Int.Bits.{bit_and, bit_or, bit_xor}
use Rattle.std.specs.Simd.Lanes.{put_chunk, zip2}
use Rattle.std.proofs.lemmas.List.{get_or-take, get_or-drop, get_or-replicate, length-replicate}
use Rattle.std.proofs.lemmas.Nat.Bits.{bit_at_ones, bit_at_xor, bit_at-lt, bit_at-zero}
use Rattle.std.proofs.lemmas.Option.{get_or_from_slice_get}
use Rattle.std.proofs.lemmas.Simd.{get_or-put_chunk_above, get_or-put_chunk_at, get_or-put_chunk_below, get_or-zip2, length-put_chunk}
use Rattle.plane_kernels.specs.Rows.{block_rows, digit_at, rows_of}
use Rattle.plane_kernels.proofs.RowLemmas.{count-rows_of, get-rows_of, length-rows_of}
use Rattle.query_model.specs.declared.bounds.Truths.{Truths}
use Rattle.query_model.specs.Truths.{truth_among}
use Rattle.kleene_filter.specs.Blocks.{bit_in, AreRowsIn, IsPut}
use Rattle.kleene_filter.specs.Filters.{is_certain}
use Rattle.kleene_filter.proofs.WordBits.{digit-and, digit-or}

-- ---- words side by side

of_two : (f : ℕ → ℕ → ℕ) (row : ℕ) (xs ys : List ℕ) → length xs ≡ 8 → length ys ≡ 8 → row < 512 → bit_in row (zip2 f xs ys) ≡ digit_at (row % 64) (f (get_or xs (row / 64) 0) (get_or ys (row / 64) 0))
of_two f row xs ys long long' few = ap (digit_at (row % 64)) (get_or-zip2 f xs ys (row / 64) 0 0 0 (omega (arith, long, few)) (omega (arith, long', few)))

pub in_both : (row : ℕ) (xs ys : List ℕ) → length xs ≡ 8 → length ys ≡ 8 → row < 512 → bit_in row (zip2 bit_and xs ys) ≡ (bit_in row xs && bit_in row ys)
in_both row xs ys long long' few = of_two bit_and row xs ys long long' few ∙ digit-and (row % 64) (get_or xs (row / 64) 0) (get_or ys (row / 64) 0)

pub in_either : (row : ℕ) (xs ys : List ℕ) → length xs ≡ 8 → length ys ≡ 8 → row < 512 → bit_in row (zip2 bit_or xs ys) ≡ (bit_in row xs || bit_in row ys)
in_either row xs ys long long' few = of_two bit_or row xs ys long long' few ∙ digit-or (row % 64) (get_or xs (row / 64) 0) (get_or ys (row / 64) 0)

-- a digit is turned by a one
turned : (a b : ℕ) → a < 2 → b ≡ 1 → ((a + b) % 2 == 1) ≡ not (a == 1)
turned a b h e = ap (λ n. (a + n) % 2 == 1) e ∙ by_digit a h
  where
    by_digit : (a : ℕ) → a < 2 → ((a + 1) % 2 == 1) ≡ not (a == 1)
    by_digit zero h = refl
    by_digit (suc zero) h = refl
    by_digit (suc (suc a)) h = absurd (omega (arith, h))

pub not_in : (row : ℕ) (xs : List ℕ) → length xs ≡ 8 → row < 512 → bit_in row (zip2 bit_xor xs (replicate 8 (2 ^ 64 - 1))) ≡ not (bit_in row xs)
not_in row xs long few =
    let place = row % 64 in
    let word = get_or xs (row / 64) 0 in
    of_two bit_xor row xs (replicate 8 (2 ^ 64 - 1)) long (length-replicate 8 (2 ^ 64 - 1)) few
    ∙ ap (λ w. digit_at place (bit_xor word w)) (get_or-replicate 8 (row / 64) (2 ^ 64 - 1) 0 (omega (arith, few)))
    ∙ ap (λ n. n == 1) (bit_at_xor word (2 ^ 64 - 1) place) ∙ turned (bit_at word place) (bit_at (2 ^ 64 - 1) place) (bit_at-lt word place) (bit_at_ones 64 place (omega arith))

pub ones_in : (row : ℕ) → row < 512 → bit_in row (replicate 8 (2 ^ 64 - 1)) ≡ true
ones_in row few = ap (digit_at (row % 64)) (get_or-replicate 8 (row / 64) (2 ^ 64 - 1) 0 (omega (arith, few))) ∙ ap (λ n. n == 1) (bit_at_ones 64 (row % 64) (omega arith))

pub none_in : (row : ℕ) → row < 512 → bit_in row (replicate 8 0) ≡ false
none_in row few = ap (digit_at (row % 64)) (get_or-replicate 8 (row / 64) 0 0 (omega (arith, few))) ∙ ap (λ n. n == 1) (bit_at-zero (row % 64))

-- all rows, or none
pub all_chosen : (row : ℕ) (rows : List ℕ) (is b : Bool) → row < 512 → bit_in row rows ≡ (is && bit_in row (replicate 8 (2 ^ 64 - 1))) → is ≡ b → bit_in row rows ≡ b
all_chosen row rows true b few e same = e ∙ ones_in row few ∙ same
all_chosen row rows false b few e same = e ∙ same

-- ---- out of the bits of the parts

pub and_of : (b m n x y : Bool) → b ≡ (m && n) → m ≡ x → n ≡ y → b ≡ (x && y)
and_of b m n x y e h k = e ∙ ap (λ v. v && n) h ∙ ap (λ v. x && v) k

pub or_of : (b m n x y : Bool) → b ≡ (m || n) → m ≡ x → n ≡ y → b ≡ (x || y)
or_of b m n x y e h k = e ∙ ap (λ v. v || n) h ∙ ap (λ v. x || v) k

pub not_of : (b m x : Bool) → b ≡ not m → m ≡ x → b ≡ not x
not_of b m x e h = e ∙ ap not h

-- null beside null or a truth, and that truth beside null
pub null_beside : (m n t u : Bool) → ((m && (n || u)) || (t && n)) ≡ ((m && n) || (m && u) || (t && n))
null_beside true true t u = refl
null_beside true false t u = refl
null_beside false n t u = refl

pub certain_by : (t : Truths) → (t.may_hold && not (t.may_fail || t.may_be_null)) ≡ is_certain (truth_among t)
certain_by t = by_bits t.may_hold t.may_fail t.may_be_null
  where
    by_bits : (h f n : Bool) → (h && not (f || n)) ≡ is_certain (truth_among (record { may_hold = h; may_fail = f; may_be_null = n }))
    by_bits true true n = refl
    by_bits true false true = refl
    by_bits true false false = refl
    by_bits false f n = refl

-- ---- blocks of masks

-- a bit of a block's words is the bit of its row
pub mask_row : (mask : List Bool) (words : List ℕ) (block row : ℕ) → rows_of (block_rows (length mask) block) words ≡ take 512 (drop (512 * block) mask) → length words ≡ 8 → row < 512 → 512 * block + row < length mask →
    bit_in row words ≡ get_or mask (512 * block + row) false
mask_row mask words block row e long few below =
    let n = block_rows (length mask) block in
    let here : slice_get (rows_of n words) row ≡ Some (bit_in row words) = get-rows_of n words row (omega (arith, few, below)) (omega (arith, long)) in
    sym (get_or_from_slice_get (rows_of n words) row (bit_in row words) false here) ∙ ap (λ l. get_or l row false) e
    ∙ get_or-take 512 (drop (512 * block) mask) row false few ∙ get_or-drop (512 * block) mask row false

pub rows_put : (mask new : List Bool) (words : List ℕ) (block : ℕ) → 512 * block < length mask → length words ≡ 8 → new ≡ put_chunk (512 * block) mask (rows_of (block_rows (length mask) block) words) → IsPut block words mask new
rows_put mask new words block inside eight put =
    let at = 512 * block in
    let n = block_rows (length mask) block in
    let bits = rows_of n words in
    let long : length bits ≡ n = length-rows_of n words (omega (arith, eight)) in
    record {
      rows = ap length put ∙ length-put_chunk at mask bits;
      before = λ k below. ap (λ l. get_or l k false) put ∙ get_or-put_chunk_below at mask bits k false below;
      behind = λ k above. ap (λ l. get_or l k false) put ∙ get_or-put_chunk_above at mask bits k false (omega (arith, long, above));
      here = λ row few. ap (λ l. get_or l (at + row) false) put ∙ get_or-put_chunk_at at mask bits row false (omega (arith, long, few)) (omega (arith, long, inside))
          ∙ get_or_from_slice_get bits row (bit_in row words) false (get-rows_of n words row few (omega (arith, eight)));
    }

-- how many rows of a block a mask has
pub rows_counted : (mask : List Bool) (block : ℕ) (rows : List ℕ) → AreRowsIn mask block rows → sum_by ones rows ≡ count_by (λ b. b) (take 512 (drop (512 * block) mask))
rows_counted mask block rows here = sym (count-rows_of (block_rows (length mask) block) rows here.padded) ∙ ap (count_by (λ b. b)) here.are
