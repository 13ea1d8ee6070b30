-- Rows by how many they are and what their digits come to: of no row, of one block more, of all.
use Rattle.std.proofs.Common.{◌≡◌, ℕ, suc, ◌+◌, ◌*◌, ◌≤◌, min, Bool, true, false, ◌&&◌, cond, List, [], ◌∷◌, ◌++◌, length, map, take, count_by, sum_by, refl, ap, sym, ◌∙◌, arith}
use Rattle.std.specs.Int.Count.{ones}
use Rattle.std.specs.Simd.Lanes.{zip2}
use Rattle.std.proofs.Math.Seq.{take-add}
use Rattle.std.proofs.lemmas.List.{length-map, length-take, map-append, take_all}
use Rattle.std.proofs.lemmas.List.Sums.{sum_by-append, sum_by-cons}
use Rattle.plane_kernels.specs.Rows.{rows_of, IsPadded}
use Rattle.plane_kernels.proofs.RowLemmas.{count-rows_of, zip2-append}
use Rattle.known_column.specs.Columns.{KnownColumn, is_at_top, number_of, rows_of_column}
use Rattle.aggregates.specs.declared.row_sums.RowSums.{RowSums}
use Rattle.aggregates.specs.ExtremeRows.{AreZero}
use Rattle.aggregates.specs.RowSums.{AreSums, AreSumsBelow, AreSumsInBlock, AreSumsOf}
use Rattle.aggregates.specs.Selections.{block_of, sum_where}
use Rattle.aggregates.proofs.BlockSums.{next_block}
use Rattle.aggregates.proofs.MaskSums.{count_both-le}

-- ---- no row

zero_ones : (ws : List ℕ) → AreZero ws → sum_by ones ws ≡ 0
unfolding ones
zero_ones [] none = refl
zero_ones (w ∷ ws) none = sum_by-cons ones w ws ∙ ap (λ n. n + sum_by ones ws) (ap ones (none 0)) ∙ ap (λ n. ones 0 + n) (zero_ones ws (λ k. none (suc k)))

pub zero_rows : (n : ℕ) (ws : List ℕ) → IsPadded n ws → AreZero ws → count_by (λ b. b) (rows_of n ws) ≡ 0
zero_rows n ws padded none = count-rows_of n ws padded ∙ zero_ones ws none

pub sum_uncounted : (mask : List Bool) (ns : List ℕ) → count_by (λ b. b) mask ≡ 0 → sum_where mask ns ≡ 0
sum_uncounted [] ns none = refl
sum_uncounted (b ∷ mask) [] none = refl
sum_uncounted (true ∷ mask) (n ∷ ns) none = absurd (omega (arith, none, sum_by-cons (λ b. cond {A = ℕ} b 1 0) true mask))
sum_uncounted (false ∷ mask) (n ∷ ns) none = (let rest = sum_uncounted mask ns (omega (arith, none, sum_by-cons (λ b. cond {A = ℕ} b 1 0) false mask)) in omega (arith, rest))

pub sums_of_none : (column : KnownColumn) (ps : List ℕ) (mask : List Bool) (sums : RowSums) → count_by (λ b. b) mask ≡ 0 → sums.rows ≡ 0 → sums.at_top ≡ 0 → sums.numbers ≡ 0 → AreSums column ps mask sums
sums_of_none column ps mask sums none rows at_top numbers = record {
  rows = rows ∙ sym none;
  at_top = omega (arith, at_top, none, count_both-le mask (map (is_at_top column.ends column.known.read) ps));
  numbers = numbers ∙ sym (sum_uncounted mask (map (number_of column.ends column.known.read) ps) none);
}

-- ---- one block more

pub sums_next : (column : KnownColumn) (mask : List Bool) (block : ℕ) (before here after : RowSums) → length mask ≡ rows_of_column column →
    AreSumsBelow column (512 * block) mask before → AreSumsInBlock column block mask here →
    after.rows ≡ before.rows + here.rows → after.at_top ≡ before.at_top + here.at_top → after.numbers ≡ before.numbers + here.numbers → AreSumsBelow column (512 * (block + 1)) mask after
sums_next column mask block before here after long is more rows at_top numbers =
    let ps = column.known.prefixes in
    let at = 512 * block in
    let top = is_at_top column.ends column.known.read in
    let next : 512 * (block + 1) ≡ at + 512 = omega arith in
    let same : length (take at mask) ≡ length (map top (take at ps)) = length-take at mask ∙ ap (min at) long ∙ sym (length-take at ps) ∙ sym (length-map (take at ps) top) in
    let parts : take (512 * (block + 1)) mask ≡ take at mask ++ block_of block mask = ap (λ n. take n mask) next ∙ take-add at 512 mask in
    let prefixes : map top (take (512 * (block + 1)) ps) ≡ map top (take at ps) ++ map top (block_of block ps) =
    ap (λ n. map top (take n ps)) next ∙ ap (map top) (take-add at 512 ps) ∙ map-append top (take at ps) (block_of block ps) in
    let counted : count_by (λ b. b) (take (512 * (block + 1)) mask) ≡ count_by (λ b. b) (take at mask) + count_by (λ b. b) (block_of block mask) =
    ap (count_by (λ b. b)) parts ∙ sum_by-append (λ b. cond b 1 0) (take at mask) (block_of block mask) in
    let tops : count_by (λ b. b) (zip2 (λ a b. a && b) (take (512 * (block + 1)) mask) (map top (take (512 * (block + 1)) ps)))
    ≡ count_by (λ b. b) (zip2 (λ a b. a && b) (take at mask) (map top (take at ps))) + count_by (λ b. b) (zip2 (λ a b. a && b) (block_of block mask) (map top (block_of block ps))) =
    ap (λ m. count_by (λ b. b) (zip2 (λ a b. a && b) m (map top (take (512 * (block + 1)) ps)))) parts
    ∙ ap (λ l. count_by (λ b. b) (zip2 (λ a b. a && b) (take at mask ++ block_of block mask) l)) prefixes
    ∙ ap (count_by (λ b. b)) (zip2-append (λ a b. a && b) (take at mask) (block_of block mask) (map top (take at ps)) (map top (block_of block ps)) same)
    ∙ sum_by-append (λ b. cond b 1 0) (zip2 (λ a b. a && b) (take at mask) (map top (take at ps))) (zip2 (λ a b. a && b) (block_of block mask) (map top (block_of block ps))) in
    record {
      rows = omega (arith, rows, is.rows, more.rows, counted);
      at_top = omega (arith, at_top, is.at_top, more.at_top, tops);
      numbers = omega (arith, numbers, is.numbers, more.numbers, next_block mask ps (number_of column.ends column.known.read) block long);
    }

pub sums_all : (column : KnownColumn) (mask : List Bool) (to : ℕ) (sums : RowSums) → length mask ≡ rows_of_column column → length mask ≤ to → AreSumsBelow column to mask sums → AreSumsOf column mask sums
sums_all column mask to sums long past is =
    let ps = column.known.prefixes in
    let rows : take to mask ≡ mask = take_all to mask past in
    let all : take to ps ≡ ps = take_all to ps (omega (arith, long, past)) in
    record {
      rows = is.rows ∙ ap (count_by (λ b. b)) rows;
      at_top = is.at_top ∙ ap (λ m. count_by (λ b. b) (zip2 (λ a b. a && b) m (map (is_at_top column.ends column.known.read) (take to ps)))) rows
          ∙ ap (λ l. count_by (λ b. b) (zip2 (λ a b. a && b) mask (map (is_at_top column.ends column.known.read) l))) all;
      numbers = is.numbers ∙ ap (λ m. sum_where m (map (number_of column.ends column.known.read) (take to ps))) rows ∙ ap (λ l. sum_where mask (map (number_of column.ends column.known.read) l)) all;
    }
