-- The ends of an expression at a mask's rows, added up block by block.
use Rattle.std.proofs.Common.{◌≡◌, ℕ, ◌+◌, ◌*◌, ◌<◌, ◌≤◌, ℤ, pos, ◌+ℤ◌, ◌*ℤ◌, ◌≤ℤ◌, Bool, false, List, length, map, take, drop, IsTrue, FitsSigned, ap, sym, subst, ◌∙◌, arith}
use Rattle.std.specs.Int.{int_min, int_max, int_wrap, w128}
use Rattle.std.proofs.Math.Seq.{take-add}
use Rattle.std.proofs.lemmas.Int.{ints, clamps, int_wrap_fits}
use Rattle.std.proofs.lemmas.List.{get_or-drop, get_or-take, length-take, take_all}
use Rattle.interval_calc.proofs.LeastSpans.{between_fits}
use Rattle.aggregates.specs.declared.ends.End.{End}
use Rattle.aggregates.specs.declared.ends.End.TheVariants.{Low, High}
use Rattle.aggregates.specs.Selections.{block_of, has_row, rows_in}
use Rattle.aggregates.proofs.BlockWords.{row_within}
use Rattle.known_column.specs.KnownTables.{IsKnownTable, KnownTable}
use Rattle.query_model.specs.Answers.{total}
use Rattle.query_model.specs.Queries.{Term}
use Rattle.query_model.specs.Truths.{span_of}
use Rattle.query_model.specs.Validity.{FitsSum, declared_ranges}
use Rattle.product_sums.specs.Products.{sum_over, term_end}
use Rattle.product_sums.proofs.RowSums.{over_between, over_parts, over_rows}
use Rattle.product_sums.proofs.TermEnds.{smaller}

-- a row of a block is one of the mask
pub row_of_block : (mask : List Bool) (block i : ℕ) → IsTrue (has_row (take 512 (drop (512 * block) mask)) i) → IsTrue (has_row mask (512 * block + i))
row_of_block mask block i has =
    let few : i < length (take 512 (drop (512 * block) mask)) = row_within (take 512 (drop (512 * block) mask)) i has in
    let small : i < 512 = omega (arith, few, length-take 512 (drop (512 * block) mask)) in
    sym (get_or-take 512 (drop (512 * block) mask) i false small ∙ get_or-drop (512 * block) mask i false) ∙ has

-- one block more
pub next_block : (mask : List Bool) (f : ℕ → ℤ) (block : ℕ) → 512 * block ≤ length mask →
    sum_over (take (512 * (block + 1)) mask) f ≡ sum_over (take (512 * block) mask) f +ℤ sum_over (block_of block mask) (λ i. f (512 * block + i))
next_block mask f block within =
    let at = 512 * block in
    let next : 512 * (block + 1) ≡ at + 512 = omega arith in
    let long : length (take at mask) ≡ at = omega (arith, length-take at mask, within) in
    ap (λ n. sum_over (take n mask) f) next ∙ ap (λ l. sum_over l f) (take-add at 512 mask) ∙ over_parts (take at mask) (block_of block mask) f
    ∙ ap (λ n. sum_over (take at mask) f +ℤ sum_over (block_of block mask) (λ i. f (n + i))) long

pub whole_mask : (mask : List Bool) (f : ℕ → ℤ) (block : ℕ) → length mask ≤ 512 * block → sum_over (take (512 * block) mask) f ≡ sum_over mask f
whole_mask mask f block past = ap (λ l. sum_over l f) (take_all (512 * block) mask past)

-- the sum fits where that of all rows does
pub sum_fits : (table : KnownTable) (known : IsKnownTable table) (e : End) (t : Term) (mask : List Bool) → length mask ≡ table.frame.rows → FitsSum table.frame.rows (span_of t (declared_ranges table.frame)) →
    FitsSigned w128 (total (map (term_end table e t) (rows_in mask)))
sum_fits table known e t mask long fits =
    let declared = span_of t (declared_ranges table.frame) in
    let low = int_min declared.low (pos 0) in
    let high = int_max declared.high (pos 0) in
    let between = over_between mask (term_end table e t) low high (omega (arith, ints, clamps)) (omega (arith, ints, clamps)) (λ r has. at_row e r (omega (arith, row_within mask r has, long))) in
    let same : (z : ℤ) → pos (length mask) *ℤ z ≡ pos table.frame.rows *ℤ z = λ z. ap (λ n. pos n *ℤ z) long in
    subst (FitsSigned w128) (sym (over_rows (term_end table e t) mask))
    (between_fits (pos table.frame.rows *ℤ low) (sum_over mask (term_end table e t)) (pos table.frame.rows *ℤ high)
    (subst (λ z. z ≤ℤ sum_over mask (term_end table e t)) (same low) between.0) (subst (λ z. sum_over mask (term_end table e t) ≤ℤ z) (same high) between.1) fits.0 fits.1)
  where
    inside : (l h dl dh x : ℤ) → dl ≤ℤ l → l ≤ℤ x → x ≤ℤ h → h ≤ℤ dh → (int_min dl (pos 0) ≤ℤ x) × (x ≤ℤ int_max dh (pos 0))
    inside l h dl dh x a b c d = (omega (arith, ints, clamps), omega (arith, ints, clamps))

    at_row : (e : End) (r : ℕ) → r < table.frame.rows → (int_min (span_of t (declared_ranges table.frame)).low (pos 0) ≤ℤ term_end table e t r) × (term_end table e t r ≤ℤ int_max (span_of t (declared_ranges table.frame)).high (pos 0))
    at_row Low r below = (let s = smaller table known r below t in inside (term_end table Low t r) (term_end table High t r) _ _ _ s.inside.low (omega (arith, ints)) s.ordered s.inside.high)
    at_row High r below = (let s = smaller table known r below t in inside (term_end table Low t r) (term_end table High t r) _ _ _ s.inside.low s.ordered (omega (arith, ints)) s.inside.high)

-- so 128 bits hold it, though they may wrap around on the way
pub wrapped_fits : (table : KnownTable) → IsKnownTable table → (e : End) (t : Term) (mask : List Bool) → length mask ≡ table.frame.rows → FitsSum table.frame.rows (span_of t (declared_ranges table.frame)) →
    (sum : ℤ) → sum ≡ int_wrap w128 (sum_over mask (term_end table e t)) → sum ≡ total (map (term_end table e t) (rows_in mask))
wrapped_fits table known e t mask long fits sum is =
    is ∙ ap (int_wrap w128) (sym (over_rows (term_end table e t) mask)) ∙ int_wrap_fits w128 _ (sum_fits table known e t mask long fits)
