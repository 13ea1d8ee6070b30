-- Rows that may count and need not, by blocks.
use Rattle.std.proofs.Common.{◌≡◌, ℕ, zero, suc, ◌+◌, ◌*◌, ◌<◌, Bool, true, false, not, ◌&&◌, cond, List, [], ◌∷◌, length, take, drop, get_or, count_by, refl, ap, sym, ◌∙◌, arith, length-drop}
use Rattle.std.specs.Simd.Lanes.{zip2}
use Rattle.std.proofs.lemmas.Bool.{false≢true}
use Rattle.std.proofs.lemmas.List.{get_or-drop, get_or-take, length-take}
use Rattle.std.proofs.lemmas.List.FromFn.{get_or-map-range_with_len, length-map-range_with_len}
use Rattle.std.proofs.lemmas.List.Sums.{sum_by-cons}
use Rattle.std.proofs.lemmas.Simd.{get_or-zip2, length-zip2}
use Rattle.known_column.specs.Columns.{KnownColumn}
use Rattle.known_column.proofs.Joining.{take-zip2}
use Rattle.aggregates.specs.declared.ends.End.{End}
use Rattle.aggregates.specs.declared.ends.End.TheVariants.{Low, High}
use Rattle.aggregates.specs.Widening.{CoverOthers, NeverWidens, widening_rows, widens}
use Rattle.aggregates.specs.Selections.{MayHaveValues, block_of, end_at, has_row, those_of}
use Rattle.aggregates.proofs.BlockWords.{row_within}
use Rattle.aggregates.proofs.EndSigns.{all_those, no_high_above, no_low_below}

-- ---- lists by blocks

drop-zip2 : (f : Bool → Bool → Bool) (n : ℕ) (xs ys : List Bool) → drop n (zip2 f xs ys) ≡ zip2 f (drop n xs) (drop n ys)
drop-zip2 f zero xs ys = refl
drop-zip2 f (suc n) [] ys = refl
drop-zip2 f (suc n) (x ∷ xs) [] = nothing (drop n xs)
  where
    nothing : (zs : List Bool) → [] ≡ zip2 f zs []
    nothing [] = refl
    nothing (z ∷ zs) = refl
drop-zip2 f (suc n) (x ∷ xs) (y ∷ ys) = drop-zip2 f n xs ys

pub block-zip2 : (f : Bool → Bool → Bool) (block : ℕ) (xs ys : List Bool) → block_of block (zip2 f xs ys) ≡ zip2 f (block_of block xs) (block_of block ys)
block-zip2 f block xs ys = ap (take 512) (drop-zip2 f (512 * block) xs ys) ∙ take-zip2 f 512 (drop (512 * block) xs) (drop (512 * block) ys)

-- a list without a bit of 1 has no row
pub count_of_none : (xs : List Bool) → ((r : ℕ) → r < length xs → get_or xs r false ≡ false) → count_by (λ b. b) xs ≡ 0
count_of_none [] none = refl
count_of_none (true ∷ xs) none = absurd (false≢true (sym (none 0 (omega arith))))
count_of_none (false ∷ xs) none = sum_by-cons (λ b. cond {A = ℕ} b 1 0) false xs ∙ ap (λ n. 0 + n) (count_of_none xs (λ r h. none (suc r) (omega (arith, h))))

-- ---- the rows of one mask that another has not

-- of the rows that pass a test those that the other mask has not are those of the rows it has not that pass the test
pub those_others : (may must : List Bool) (test : ℕ → Bool) → length must ≡ length may →
    those_of (zip2 (λ a b. a && not b) may must) test ≡ zip2 (λ a b. a && not b) (those_of may test) must
those_others may must test long =
    let within = zip2 (λ a b. a && not b) may must in
    let passing = those_of may test in
    let passing_long : length passing ≡ length may = length-map-range_with_len (λ row. has_row may row && test row) 0 (length may) in
    let within_long : length within ≡ length may = length-zip2 (λ a b. a && not b) may must (sym long) in
    sym (all_those (zip2 (λ a b. a && not b) passing must) within test (length-zip2 (λ a b. a && not b) passing must (passing_long ∙ sym long) ∙ passing_long ∙ sym within_long) (λ k below.
    let inside : k < length may = omega (arith, below, within_long) in
    get_or-zip2 (λ a b. a && not b) passing must k false false false (omega (arith, inside, passing_long)) (omega (arith, inside, long))
    ∙ ap (λ b. b && not (get_or must k false)) (get_or-map-range_with_len (λ row. has_row may row && test row) 0 (length may) k k false inside (omega arith))
    ∙ swap (get_or may k false) (test k) (get_or must k false)
    ∙ ap (λ b. b && test k) (sym (get_or-zip2 (λ a b. a && not b) may must k false false false inside (omega (arith, inside, long))))))
  where
    swap : (a t m : Bool) → ((a && t) && not m) ≡ ((a && not m) && t)
    swap true true m = right (not m)
      where
        right : (b : Bool) → b ≡ (b && true)
        right true = refl
        right false = refl
    swap true false m = right (not m)
      where
        right : (b : Bool) → false ≡ (b && false)
        right true = refl
        right false = refl
    swap false t m = refl

-- they may have values where the first mask's rows may
pub others_may : (column : KnownColumn) (may must : List Bool) → length must ≡ length may → MayHaveValues column may → MayHaveValues column (zip2 (λ a b. a && not b) may must)
others_may column may must long values row has =
    let within = zip2 (λ a b. a && not b) may must in
    let within_long : length within ≡ length may = length-zip2 (λ a b. a && not b) may must (sym long) in
    let inside : row < length may = omega (arith, row_within within row has, within_long) in
    values row (first (get_or may row false) (get_or must row false) (sym (get_or-zip2 (λ a b. a && not b) may must row false false false inside (omega (arith, inside, long))) ∙ has))
  where
    first : (a b : Bool) → (a && not b) ≡ true → a ≡ true
    first true b h = refl
    first false b h = h

pub widening_long : (end : End) (column : KnownColumn) (may must : List Bool) → length must ≡ length may → length (widening_rows end column may must) ≡ length may
widening_long end column may must long =
    let passing_long : length (those_of may (λ row. widens end (end_at end column row))) ≡ length may = length-map-range_with_len (λ row. has_row may row && widens end (end_at end column row)) 0 (length may) in
    length-zip2 (λ a b. a && not b) (those_of may (λ row. widens end (end_at end column row))) must (passing_long ∙ sym long) ∙ passing_long

-- a row of them
pub widening_at : (end : End) (column : KnownColumn) (may must : List Bool) (k : ℕ) → length must ≡ length may → k < length may →
    get_or (widening_rows end column may must) k false ≡ ((get_or may k false && widens end (end_at end column k)) && not (get_or must k false))
widening_at end column may must k long inside =
    let test : ℕ → Bool = λ row. widens end (end_at end column row) in
    let passing_long : length (those_of may test) ≡ length may = length-map-range_with_len (λ row. has_row may row && test row) 0 (length may) in
    get_or-zip2 (λ a b. a && not b) (those_of may test) must k false false false (omega (arith, inside, passing_long)) (omega (arith, inside, long))
    ∙ ap (λ b. b && not (get_or must k false)) (get_or-map-range_with_len (λ row. has_row may row && test row) 0 (length may) k k false inside (omega arith))

-- those of them may have values
pub widening_values : (end : End) (column : KnownColumn) (may must : List Bool) → length must ≡ length may → MayHaveValues column may → MayHaveValues column (widening_rows end column may must)
widening_values end column may must long values row has =
    let rows = widening_rows end column may must in
    let inside : row < length may = omega (arith, row_within rows row has, widening_long end column may must long) in
    values row (first (get_or may row false) (widens end (end_at end column row)) (get_or must row false) (sym (widening_at end column may must row long inside) ∙ has))
  where
    first : (a t m : Bool) → ((a && t) && not m) ≡ true → a ≡ true
    first true t m h = refl
    first false t m h = h

-- a block in which both masks have the same rows has none of them
pub none_here : (end : End) (column : KnownColumn) (may must blocks : List Bool) (block : ℕ) → length must ≡ length may → CoverOthers may must blocks → has_row blocks block ≡ false →
    count_by (λ b. b) (block_of block (widening_rows end column may must)) ≡ 0
none_here end column may must blocks block long cover off =
    let rows = widening_rows end column may must in
    let rows_long = widening_long end column may must long in
    count_of_none (block_of block rows) (λ r below.
    let few : r < 512 = omega (arith, below, length-take 512 (drop (512 * block) rows)) in
    let inside : 512 * block + r < length may = omega (arith, below, length-take 512 (drop (512 * block) rows), length-drop (512 * block) rows, rows_long) in
    get_or-take 512 (drop (512 * block) rows) r false few ∙ get_or-drop (512 * block) rows r false
    ∙ widening_at end column may must (512 * block + r) long inside
    ∙ none (get_or may (512 * block + r) false) (widens end (end_at end column (512 * block + r))) (get_or must (512 * block + r) false) (cover.same block r few off))
  where
    none : (a t m : Bool) → m ≡ a → ((a && t) && not m) ≡ false
    none true true m h = ap not h
    none true false m h = refl
    none false t m h = refl

-- where no number of the column widens the sum there are none of them
pub never_any : (end : End) (column : KnownColumn) (may must : List Bool) → length must ≡ length may → NeverWidens end column.ends → count_by (λ b. b) (widening_rows end column may must) ≡ 0
never_any end column may must long never =
    let rows = widening_rows end column may must in
    let test : ℕ → Bool = λ row. widens end (end_at end column row) in
    let passing_long : length (those_of may (λ row. false)) ≡ length may = length-map-range_with_len (λ row. has_row may row && false) 0 (length may) in
    count_of_none rows (λ r below.
    let inside : r < length may = omega (arith, below, widening_long end column may must long) in
    ap (λ m. get_or (zip2 (λ a b. a && not b) m must) r false) (sym (none end never))
    ∙ get_or-zip2 (λ a b. a && not b) (those_of may (λ row. false)) must r false false false (omega (arith, inside, passing_long)) (omega (arith, inside, long))
    ∙ ap (λ b. b && not (get_or must r false)) (get_or-map-range_with_len (λ row. has_row may row && false) 0 (length may) r r false inside (omega arith))
    ∙ off (get_or may r false) (get_or must r false))
  where
    none : (end : End) → NeverWidens end column.ends → those_of may (λ row. false) ≡ those_of may (λ row. widens end (end_at end column row))
    none Low h = no_low_below column may h
    none High h = no_high_above column may h

    off : (a m : Bool) → ((a && false) && not m) ≡ false
    off true m = refl
    off false m = refl
