-- Sums that follow the rows of a block that come and leave, and planes that are read.
use Rattle.std.proofs.Common.{◌&&◌, not, count_by, sum_by, ◌≡◌, ℕ, zero, suc, ◌+◌, ◌-◌, ◌*◌, ◌/◌, ◌^◌, min, Bool, true, false, cond, List, [], ◌∷◌, ◌++◌, length, map, take, drop, replicate, ◌<◌, ◌≤◌, ◌⊎◌, inl, inr, refl, ap, sym, subst, ◌∙◌, arith}
use Rattle.std.specs.Int.Count.{ones}
use Rattle.std.specs.Simd.Lanes.{put_chunk, zip2}
use Rattle.std.proofs.lemmas.List.Sums.{count_by-le-length, sum_by-cons}
use Rattle.std.proofs.Math.Nat.{pow-suc, div-div-eq-div-mul}
use Rattle.std.proofs.Math.Seq.{take-add}
use Rattle.std.proofs.lemmas.List.{drop-map, length-map, take-map}
use Rattle.plane_kernels.specs.Rows.{block_rows, rows_of, IsPadded}
use Rattle.plane_kernels.specs.Words.{and_not}
use Rattle.plane_kernels.proofs.Bitwise.{and_not_is_bitwise, padded-zip2, rows_of-zip2}
use Rattle.plane_kernels.proofs.RowLemmas.{count-rows_of, length-rows_of}
use Rattle.query_model.specs.Knowledge.{longer}
use Rattle.known_column.specs.Columns.{KnownColumn, number_of, read_further, rows_of_column}
use Rattle.known_column.proofs.Growing.{length-longer}
use Rattle.aggregates.specs.declared.kept_sum.KeptSum.{KeptSum}
use Rattle.aggregates.specs.KeptSums.{IsKept}
use Rattle.aggregates.specs.Selections.{block_of, early_number, has_row, sum_of_first, sum_where}
use Rattle.aggregates.specs.Widening.{CoverOthers}
use Rattle.std.proofs.lemmas.Bool.{cases_lt, false≢true}
use Rattle.std.proofs.lemmas.List.{ext_get_or, get_or-drop, get_or-take, length-drop, length-take}
use Rattle.std.proofs.lemmas.Simd.{get_or-put_chunk_above, get_or-put_chunk_below, length-put_chunk}

-- ---- rows that come and leave

-- rows of a block in place of others
sum_moved : (size i : ℕ) (xs ys : List Bool) (ns : List ℕ) → length xs ≡ length ns → length ys ≡ min size (length xs - i) →
    sum_where (put_chunk i xs ys) ns + sum_where (take size (drop i xs)) (take size (drop i ns)) ≡ sum_where xs ns + sum_where ys (take size (drop i ns))
sum_moved size i [] [] ns long few = nothing size i ns
  where
    nothing : (size i : ℕ) (ns : List ℕ) → sum_where (put_chunk i [] []) ns + sum_where (take size (drop i [])) (take size (drop i ns)) ≡ sum_where [] ns + sum_where [] (take size (drop i ns))
    nothing zero zero ns = refl
    nothing (suc size) zero ns = refl
    nothing zero (suc i) ns = refl
    nothing (suc size) (suc i) ns = refl
sum_moved size i [] (y ∷ ys) ns long few = absurd (omega (arith, few))
sum_moved size i (x ∷ xs) ys [] long few = absurd (omega (arith, long))
sum_moved zero zero (x ∷ xs) [] (n ∷ ns) long few = refl
sum_moved zero zero (x ∷ xs) (y ∷ ys) (n ∷ ns) long few = absurd (omega (arith, few))
sum_moved (suc size) zero (x ∷ xs) [] (n ∷ ns) long few = absurd (omega (arith, few))
sum_moved (suc size) zero (x ∷ xs) (y ∷ ys) (n ∷ ns) long few = (let rest = sum_moved size zero xs ys ns (omega (arith, long)) (omega (arith, few)) in omega (arith, rest))
sum_moved size (suc i) (x ∷ xs) ys (n ∷ ns) long few = (let rest = sum_moved size i xs ys ns (omega (arith, long)) (omega (arith, few)) in omega (arith, rest))

-- rows of a mask in place of those of a block, behind rows of the mask
pub rows_moved : (size i : ℕ) (xs zs : List Bool) → length xs ≡ length zs → take i xs ≡ take i zs → take (i + size) (put_chunk i xs (take size (drop i zs))) ≡ take (i + size) zs
rows_moved size zero xs zs long same = (let first : 0 + size ≡ size = omega arith in ap (λ n. take n (put_chunk 0 xs (take size zs))) first ∙ front size xs zs long ∙ ap (λ n. take n zs) (sym first))
  where
    front : (size : ℕ) (xs zs : List Bool) → length xs ≡ length zs → take size (put_chunk 0 xs (take size zs)) ≡ take size zs
    front zero xs zs long = refl
    front (suc size) [] [] long = refl
    front (suc size) [] (z ∷ zs) long = absurd (omega (arith, long))
    front (suc size) (x ∷ xs) [] long = absurd (omega (arith, long))
    front (suc size) (x ∷ xs) (z ∷ zs) long = ap (λ l. z ∷ l) (front size xs zs (omega (arith, long)))
rows_moved size (suc i) [] [] long same = refl
rows_moved size (suc i) [] (z ∷ zs) long same = absurd (omega (arith, long))
rows_moved size (suc i) (x ∷ xs) [] long same = absurd (omega (arith, long))
rows_moved size (suc i) (x ∷ xs) (z ∷ zs) long same =
    let next : suc i + size ≡ suc (i + size) = omega arith in
    let rest = rows_moved size i xs zs (omega (arith, long)) (others x z (take i xs) (take i zs) same) in
    ap (λ n. take n (x ∷ put_chunk i xs (take size (drop i zs)))) next ∙ ap (λ l. x ∷ l) rest ∙ ap (λ b. b ∷ take (i + size) zs) (firsts x z (take i xs) (take i zs) same) ∙ ap (λ n. take n (z ∷ zs)) (sym next)
  where
    firsts : (x z : Bool) (xs zs : List Bool) → (x ∷ xs) ≡ (z ∷ zs) → x ≡ z
    firsts x z xs zs e = cc

    others : (x z : Bool) (xs zs : List Bool) → (x ∷ xs) ≡ (z ∷ zs) → xs ≡ zs
    others x z xs zs e = cc

-- the same rows behind the same rows
pub rows_stayed : (size i : ℕ) (xs zs : List Bool) → take i xs ≡ take i zs → take size (drop i xs) ≡ take size (drop i zs) → take (i + size) xs ≡ take (i + size) zs
rows_stayed size i xs zs first next = take-add i size xs ∙ ap (λ l. l ++ take size (drop i xs)) first ∙ ap (λ l. take i zs ++ l) next ∙ sym (take-add i size zs)

-- rows of a mask in place of those of a block: elsewhere the same blocks cover where both differ
pub still_covers : (block : ℕ) (xs zs blocks : List Bool) → length xs ≡ length zs → has_row blocks block ≡ true → CoverOthers xs zs blocks → CoverOthers (put_chunk (512 * block) xs (block_of block zs)) zs blocks
still_covers block xs zs blocks long on covers = record {
  room = omega (arith, length-put_chunk (512 * block) xs (block_of block zs), covers.room);
  same = λ b j few off. covers.same b j few off ∙ sym (elsewhere b j few off (cases_lt b block) (cases_lt block b));
}
  where
    short : length (block_of block zs) ≤ 512
    short = omega (arith, length-take 512 (drop (512 * block) zs))

    elsewhere : (b j : ℕ) → j < 512 → has_row blocks b ≡ false → (b < block) ⊎ (block ≤ b) → (block < b) ⊎ (b ≤ block) →
        has_row (put_chunk (512 * block) xs (block_of block zs)) (512 * b + j) ≡ has_row xs (512 * b + j)
    elsewhere b j few off (inl before) other = get_or-put_chunk_below (512 * block) xs (block_of block zs) (512 * b + j) false (omega (arith, few, before))
    elsewhere b j few off (inr from) (inl behind) = get_or-put_chunk_above (512 * block) xs (block_of block zs) (512 * b + j) false (omega (arith, short, behind))
    elsewhere b j few off (inr from) (inr to) = absurd (false≢true (sym off ∙ ap (has_row blocks) (omega (arith, from, to)) ∙ on))

-- where the blocks do not cover, both have the same rows
pub stays_here : (block : ℕ) (xs zs blocks : List Bool) → length xs ≡ length zs → CoverOthers xs zs blocks → has_row blocks block ≡ false → block_of block xs ≡ block_of block zs
stays_here block xs zs blocks long covers off =
    let at = 512 * block in
    let left : length (drop at xs) ≡ length (drop at zs) = length-drop at xs ∙ ap (λ n. n - at) long ∙ sym (length-drop at zs) in
    let both : length (block_of block xs) ≡ length (block_of block zs) = length-take 512 (drop at xs) ∙ ap (min 512) left ∙ sym (length-take 512 (drop at zs)) in
    ext_get_or false (block_of block xs) (block_of block zs) both (λ r below.
    let few : r < 512 = omega (arith, below, length-take 512 (drop at xs)) in
    get_or-take 512 (drop at xs) r false few ∙ get_or-drop at xs r false ∙ sym (covers.same block r few off)
    ∙ sym (get_or-take 512 (drop at zs) r false few ∙ get_or-drop at zs r false))

-- of numbers of prefixes
block_moved : (f : ℕ → ℕ) (block : ℕ) (xs ys : List Bool) (ps : List ℕ) → length xs ≡ length ps → length ys ≡ min 512 (length xs - 512 * block) →
    sum_where (put_chunk (512 * block) xs ys) (map f ps) + sum_where (block_of block xs) (map f (block_of block ps)) ≡ sum_where xs (map f ps) + sum_where ys (map f (block_of block ps))
block_moved f block xs ys ps long few =
    let at = 512 * block in
    let same : take 512 (drop at (map f ps)) ≡ map f (block_of block ps) = ap (take 512) (drop-map f at ps) ∙ take-map f 512 (drop at ps) in
    sym (ap (λ l. sum_where (put_chunk at xs ys) (map f ps) + sum_where (block_of block xs) l) same) ∙ sum_moved 512 at xs ys (map f ps) (long ∙ sym (length-map ps f)) few
    ∙ ap (λ l. sum_where xs (map f ps) + sum_where ys l) same

-- of the rows of one list and of another those that only one has are told apart
sum_apart : (xs ys : List Bool) (ns : List ℕ) → length ys ≡ length xs → sum_where ys ns + sum_where (zip2 (λ a b. a && not b) xs ys) ns ≡ sum_where xs ns + sum_where (zip2 (λ a b. a && not b) ys xs) ns
sum_apart [] [] ns e = refl
sum_apart [] (y ∷ ys) ns e = absurd (omega (arith, e))
sum_apart (x ∷ xs) [] ns e = absurd (omega (arith, e))
sum_apart (x ∷ xs) (y ∷ ys) [] e = refl
sum_apart (true ∷ xs) (true ∷ ys) (n ∷ ns) e = (let rest = sum_apart xs ys ns (omega (arith, e)) in omega (arith, rest))
sum_apart (true ∷ xs) (false ∷ ys) (n ∷ ns) e = (let rest = sum_apart xs ys ns (omega (arith, e)) in omega (arith, rest))
sum_apart (false ∷ xs) (true ∷ ys) (n ∷ ns) e = (let rest = sum_apart xs ys ns (omega (arith, e)) in omega (arith, rest))
sum_apart (false ∷ xs) (false ∷ ys) (n ∷ ns) e = (let rest = sum_apart xs ys ns (omega (arith, e)) in omega (arith, rest))

-- how many rows there are, once those of a block are others
count_moved : (size i : ℕ) (xs ys : List Bool) → length ys ≡ min size (length xs - i) →
    count_by (λ b. b) (put_chunk i xs ys) + count_by (λ b. b) (take size (drop i xs)) ≡ count_by (λ b. b) xs + count_by (λ b. b) ys
count_moved size i [] [] few = nothing size i
  where
    nothing : (size i : ℕ) → count_by (λ b. b) (put_chunk {A = Bool} i [] []) + count_by (λ b. b) (take size (drop {A = Bool} i [])) ≡ 0
    nothing zero zero = refl
    nothing (suc size) zero = refl
    nothing zero (suc i) = refl
    nothing (suc size) (suc i) = refl
count_moved size i [] (y ∷ ys) few = absurd (omega (arith, few))
count_moved zero zero (x ∷ xs) [] few = refl
count_moved zero zero (x ∷ xs) (y ∷ ys) few = absurd (omega (arith, few))
count_moved (suc size) zero (x ∷ xs) [] few = absurd (omega (arith, few))
count_moved (suc size) zero (x ∷ xs) (y ∷ ys) few =
    omega (
      arith,
      count_moved size zero xs ys (omega (arith, few)),
      sum_by-cons (λ b. cond {A = ℕ} b 1 0) y (put_chunk zero xs ys),
      sum_by-cons (λ b. cond {A = ℕ} b 1 0) x (take size xs),
      sum_by-cons (λ b. cond {A = ℕ} b 1 0) x xs,
      sum_by-cons (λ b. cond {A = ℕ} b 1 0) y ys,
    )
count_moved size (suc i) (x ∷ xs) ys few =
    omega (arith, count_moved size i xs ys (omega (arith, few)), sum_by-cons (λ b. cond {A = ℕ} b 1 0) x (put_chunk i xs ys), sum_by-cons (λ b. cond {A = ℕ} b 1 0) x xs)

-- rows of a block in words, those that came and those that left
pub record AreMoved (n : ℕ) (old new came left : List ℕ) : Type 0 where
  pub came_is : came ≡ zip2 and_not new old
  pub left_is : left ≡ zip2 and_not old new
  pub old_eight : length old ≡ 8
  pub new_eight : length new ≡ 8
  pub old_padded : IsPadded n old
  pub new_padded : IsPadded n new

pub left_padded : (n : ℕ) (old new came left : List ℕ) → AreMoved n old new came left → IsPadded n left
left_padded n old new came left m = subst (IsPadded n) (sym m.left_is) (padded-zip2 and_not (λ a b. a && not b) and_not_is_bitwise n old new (m.new_eight ∙ sym m.old_eight) m.old_padded m.new_padded)

-- what is kept, once the rows of a block moved
pub sum_follows : (column : KnownColumn) (kept : KeptSum) (block off on : ℕ) (old new came left : List ℕ) → IsKept column kept → AreMoved (block_rows (rows_of_column column) block) old new came left →
    rows_of (block_rows (length kept.mask) block) old ≡ block_of block kept.mask →
    off ≡ sum_where (rows_of (block_rows (rows_of_column column) block) left) (map (early_number column kept.read) (block_of block column.known.prefixes)) →
    on ≡ sum_where (rows_of (block_rows (rows_of_column column) block) came) (map (early_number column kept.read) (block_of block column.known.prefixes)) →
    sum_of_first column kept.read (put_chunk (512 * block) kept.mask (rows_of (block_rows (rows_of_column column) block) new)) + off ≡ kept.number + on
sum_follows column kept block off on old new came left is moved rows off_is on_is =
    let ps = column.known.prefixes in
    let ns = map (early_number column kept.read) (block_of block ps) in
    let n = block_rows (rows_of_column column) block in
    let old_rows : rows_of n old ≡ block_of block kept.mask = subst (λ k. rows_of (block_rows k block) old ≡ block_of block kept.mask) is.rows rows in
    let new_long : length (rows_of n new) ≡ n = length-rows_of n new (omega (arith, moved.new_eight)) in
    let old_long : length (rows_of n old) ≡ n = length-rows_of n old (omega (arith, moved.old_eight)) in
    let long : length (rows_of n new) ≡ min 512 (length kept.mask - 512 * block) = new_long ∙ ap (λ k. block_rows k block) (sym is.rows) in
    let replaced = block_moved (early_number column kept.read) block kept.mask (rows_of n new) ps is.rows long in
    let apart = sum_apart (rows_of n old) (rows_of n new) ns (new_long ∙ sym old_long) in
    let came_rows : rows_of n came ≡ zip2 (λ a b. a && not b) (rows_of n new) (rows_of n old) =
    ap (rows_of n) moved.came_is ∙ rows_of-zip2 and_not (λ a b. a && not b) and_not_is_bitwise n new old (moved.old_eight ∙ sym moved.new_eight) moved.new_padded moved.old_padded in
    let left_rows : rows_of n left ≡ zip2 (λ a b. a && not b) (rows_of n old) (rows_of n new) =
    ap (rows_of n) moved.left_is ∙ rows_of-zip2 and_not (λ a b. a && not b) and_not_is_bitwise n old new (moved.new_eight ∙ sym moved.old_eight) moved.old_padded moved.new_padded in
    let on_sum : on ≡ sum_where (zip2 (λ a b. a && not b) (rows_of n new) (rows_of n old)) ns = on_is ∙ ap (λ r. sum_where r ns) came_rows in
    let off_sum : off ≡ sum_where (zip2 (λ a b. a && not b) (rows_of n old) (rows_of n new)) ns = off_is ∙ ap (λ r. sum_where r ns) left_rows in
    let old_sum : sum_where (rows_of n old) ns ≡ sum_where (block_of block kept.mask) ns = ap (λ r. sum_where r ns) old_rows in
    omega (arith, replaced, apart, is.adds, on_sum, off_sum, old_sum)

pub count_follows : (column : KnownColumn) (kept : KeptSum) (block : ℕ) (old new : List ℕ) → IsKept column kept → length new ≡ 8 →
    IsPadded (block_rows (rows_of_column column) block) old → IsPadded (block_rows (rows_of_column column) block) new →
    rows_of (block_rows (length kept.mask) block) old ≡ block_of block kept.mask →
    count_by (λ b. b) (put_chunk (512 * block) kept.mask (rows_of (block_rows (rows_of_column column) block) new)) + sum_by ones old ≡ kept.count + sum_by ones new
count_follows column kept block old new is eight p q rows =
    let n = block_rows (rows_of_column column) block in
    let old_rows : rows_of n old ≡ block_of block kept.mask = subst (λ k. rows_of (block_rows k block) old ≡ block_of block kept.mask) is.rows rows in
    let long : length (rows_of n new) ≡ min 512 (length kept.mask - 512 * block) = length-rows_of n new (omega (arith, eight)) ∙ ap (λ k. block_rows k block) (sym is.rows) in
    let old_count : sum_by ones old ≡ count_by (λ b. b) (block_of block kept.mask) = sym (count-rows_of n old p) ∙ ap (count_by (λ b. b)) old_rows in
    let new_count : count_by (λ b. b) (rows_of n new) ≡ sum_by ones new = count-rows_of n new q in
    omega (arith, count_moved 512 (512 * block) kept.mask (rows_of n new) long, old_count, new_count, is.count)

-- a mask that counts as many rows as it has has all of them
all_rows : (xs : List Bool) → count_by (λ b. b) xs ≡ length xs → xs ≡ replicate (length xs) true
all_rows [] e = refl
all_rows (true ∷ xs) e = ap (λ l. true ∷ l) (all_rows xs (omega (arith, e, sum_by-cons (λ b. cond {A = ℕ} b 1 0) true xs)))
all_rows (false ∷ xs) e = absurd (omega (arith, e, sum_by-cons (λ b. cond {A = ℕ} b 1 0) false xs, count_by-le-length {X = Bool} (λ b. b) xs))

pub both_full : (xs ys : List Bool) → length xs ≡ length ys → count_by (λ b. b) xs ≡ length xs → count_by (λ b. b) ys ≡ length ys → xs ≡ ys
both_full xs ys same p q = all_rows xs p ∙ ap (λ n. replicate n true) same ∙ sym (all_rows ys q)

-- no row gives nothing
pub sum_of_none : (n : ℕ) (ns : List ℕ) → sum_where (replicate n false) ns ≡ 0
sum_of_none zero ns = refl
sum_of_none (suc n) [] = refl
sum_of_none (suc n) (m ∷ ns) = ap (λ k. 0 + k) (sum_of_none n ns)

pub count-none : (n : ℕ) → count_by (λ b. b) (replicate n false) ≡ 0
count-none zero = refl
count-none (suc n) = sum_by-cons (λ b. cond {A = ℕ} b 1 0) false (replicate n false) ∙ ap (λ k. 0 + k) (count-none n)

-- ---- planes that are read

-- the first digits of a prefix stay where a digit follows
pub first_digits : (p k : ℕ) (b : Bool) → (2 * p + cond b 1 0) / 2 ^ suc k ≡ p / 2 ^ k
first_digits p k b =
    let twice : 2 ^ suc k ≡ 2 * 2 ^ k = pow-suc 2 k ∙ omega arith in
    ap (λ n. (2 * p + cond b 1 0) / n) twice ∙ sym (div-div-eq-div-mul (2 * p + cond b 1 0) 2 (2 ^ k)) ∙ ap (λ n. n / 2 ^ k) (half b)
  where
    half : (b : Bool) → (2 * p + cond b 1 0) / 2 ≡ p
    half true = omega arith
    half false = omega arith

map_longer : (f g : ℕ → ℕ) → ((p : ℕ) (b : Bool) → f (2 * p + cond b 1 0) ≡ g p) → (ps : List ℕ) (bits : List Bool) → length bits ≡ length ps → map f (longer ps bits) ≡ map g ps
map_longer f g each [] bits e = refl
map_longer f g each (p ∷ ps) [] e = absurd (omega (arith, e))
map_longer f g each (p ∷ ps) (b ∷ bits) e = ap (λ n. n ∷ map f (longer ps bits)) (each p b) ∙ ap (λ l. g p ∷ l) (map_longer f g each ps bits (omega (arith, e)))

-- what is kept stays so after the next plane
pub still_kept : (column : KnownColumn) (bits : List Bool) (kept : KeptSum) → length bits ≡ rows_of_column column → IsKept column kept → IsKept (read_further column bits) kept
still_kept column bits kept long is =
    let read = column.known.read in
    let ps = column.known.prefixes in
    let next : (read + 1) - kept.read ≡ suc (read - kept.read) = omega (arith, is.some_read) in
    record {
      rows = is.rows ∙ sym (length-longer ps bits long);
      count = is.count;
      some_read = omega (arith, is.some_read);
      adds = is.adds ∙ ap (sum_where kept.mask) (sym (map_longer (early_number (read_further column bits) kept.read) (early_number column kept.read)
          (λ p b. ap (λ k. number_of column.ends kept.read ((2 * p + cond b 1 0) / 2 ^ k)) next ∙ ap (number_of column.ends kept.read) (first_digits p (read - kept.read) b)) ps bits long));
    }
