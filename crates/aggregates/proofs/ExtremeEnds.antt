-- The extreme ends at a mask's rows are those of the rows whose numbers are extreme.
use Rattle.std.proofs.Common.{◌≡◌, ℕ, zero, suc, ◌+◌, ◌-◌, ◌*◌, ◌^◌, ◌<◌, ◌≤◌, cond, count_by, min, ℤ, pos, ◌+ℤ◌, ◌≤ℤ◌, Bool, true, false, List, [], ◌∷◌, length, map, filter, get_or, Some, None, inl, inr, refl, ap, sym, subst, ◌∙◌, arith}
use Rattle.std.specs.declared.option.Option.{Option}
use Rattle.std.specs.Prelude.{IsNone}
use Rattle.std.specs.List.{position, range_with_len, slice_get}
use Rattle.std.proofs.Math.Nat.{mul-le-mul_right}
use Rattle.std.proofs.lemmas.Bool.{eqb-true, false≢true}
use Rattle.std.proofs.lemmas.Int.{ints}
use Rattle.std.proofs.lemmas.List.{get_or-map, length-map}
use Rattle.std.proofs.lemmas.List.Quantifiers.{position-Some}
use Rattle.std.proofs.lemmas.List.Sums.{sum_by-cons}
use Rattle.std.proofs.lemmas.Nat.{le-div, pow_pos}
use Rattle.std.proofs.lemmas.Option.{get_or_from_slice_get}
use Rattle.daq_table.specs.Tables.{first_code, planes, spread}
use Rattle.query_model.specs.declared.query.ItemKind.TheVariants.{Min, Max}
use Rattle.query_model.specs.Answers.{answer, greatest, least}
use Rattle.query_model.proofs.Extremes.{Has, greatest_above, greatest_stands, least_below, least_stands}
use Rattle.query_model.specs.Knowledge.{prefix_of}
use Rattle.known_column.specs.Columns.{KnownColumn, is_at_top, rows_of_column, rows_where}
use Rattle.known_column.specs.RowBlocks.{IsKnownColumn}
use Rattle.known_column.proofs.Nulls.{legal_code}
use Rattle.aggregates.specs.declared.ends.End.{End}
use Rattle.aggregates.specs.declared.ends.End.TheVariants.{Low, High}
use Rattle.aggregates.specs.declared.extreme_rows.Extreme.{Extreme}
use Rattle.aggregates.specs.declared.extreme_rows.Extreme.TheVariants.{Least, Greatest}
use Rattle.aggregates.specs.ExtremeRows.{kind_of, number_at, IsAsFar, IsExtreme, IsExtremeRow}
use Rattle.aggregates.specs.Selections.{end_at, ends_in, has_row}
use Rattle.aggregates.proofs.BlockWords.{row_within}
use Rattle.aggregates.proofs.EndSums.{Counts, numbers}
use Rattle.aggregates.proofs.MaskSums.{first_row}
use Rattle.aggregates.proofs.NumberRows.{IsNumber, first_plane}

-- ---- lists

pub least_is : (xs : List ℤ) (v : ℤ) → Has v xs → ((x : ℤ) → Has x xs → v ≤ℤ x) → answer Min xs ≡ Some v
least_is [] v h each = absurd h
least_is (x ∷ xs) v h each = (let below = least_below v (x ∷ xs) h in let above = each (least (x ∷ xs)) (least_stands x xs) in ap Some (omega (arith, ints, below, above)))

pub greatest_is : (xs : List ℤ) (v : ℤ) → Has v xs → ((x : ℤ) → Has x xs → x ≤ℤ v) → answer Max xs ≡ Some v
greatest_is [] v h each = absurd h
greatest_is (x ∷ xs) v h each = (let above = greatest_above v (x ∷ xs) h in let below = each (greatest (x ∷ xs)) (greatest_stands x xs) in ap Some (omega (arith, ints, below, above)))

-- ---- a function's values at the rows of a mask

pub stands_in : (f : ℕ → ℤ) (mask : List Bool) (r : ℕ) → has_row mask r ≡ true → Has (f r) (map f (filter (has_row mask) (range_with_len 0 (length mask))))
stands_in f [] r e = absurd (false≢true e)
stands_in f (true ∷ mask) zero e = subst (Has (f 0)) (sym (first_row f true mask)) (inl refl)
stands_in f (true ∷ mask) (suc r) e = subst (Has (f (suc r))) (sym (first_row f true mask)) (inr (stands_in (λ k. f (suc k)) mask r e))
stands_in f (false ∷ mask) zero e = absurd (false≢true e)
stands_in f (false ∷ mask) (suc r) e = subst (Has (f (suc r))) (sym (first_row f false mask)) (stands_in (λ k. f (suc k)) mask r e)

pub each_in : (f : ℕ → ℤ) (mask : List Bool) (P : ℤ → Type 0) → ((r : ℕ) → has_row mask r ≡ true → P (f r)) → (x : ℤ) → Has x (map f (filter (has_row mask) (range_with_len 0 (length mask)))) → P x
each_in f [] P each x h = absurd h
each_in f (true ∷ mask) P each x h =
    elim (subst (Has x) (first_row f true mask) h) [
      | inl e ↦ subst P (sym e) (each 0 refl)
      | inr k ↦ each_in (λ r. f (suc r)) mask P (λ r has. each (suc r) has) x k
    ]
each_in f (false ∷ mask) P each x h = each_in (λ r. f (suc r)) mask P (λ r has. each (suc r) has) x (subst (Has x) (first_row f false mask) h)

none_in : (f : ℕ → ℤ) (mask : List Bool) → ((r : ℕ) → has_row mask r ≡ false) → map f (filter (has_row mask) (range_with_len 0 (length mask))) ≡ []
none_in f [] each = refl
none_in f (true ∷ mask) each = absurd (false≢true (sym (each 0)))
none_in f (false ∷ mask) each = first_row f false mask ∙ none_in (λ r. f (suc r)) mask (λ r. each (suc r))

-- ---- ends out of numbers

-- a greater number has no lesser ends
lows_mono : (column : KnownColumn) (p q n m : ℕ) → IsNumber column.ends column.known.read p n → IsNumber column.ends column.known.read q m → n ≤ m →
    (column.ends.base +ℤ pos (p * 2 ^ (planes column.ends - column.known.read) - first_code column.ends)) ≤ℤ (column.ends.base +ℤ pos (q * 2 ^ (planes column.ends - column.known.read) - first_code column.ends))
lows_mono column p q n m a b h =
    let k = 2 ^ (planes column.ends - column.known.read) in
    let more : n * k ≤ m * k = mul-le-mul_right k h in
    omega (arith, ints, more, a.above, b.above)

highs_mono : (column : KnownColumn) (p q : ℕ) → p ≤ q →
    (column.ends.base +ℤ pos (min ((p + 1) * 2 ^ (planes column.ends - column.known.read) - 1 - first_code column.ends) (spread column.ends)))
    ≤ℤ (column.ends.base +ℤ pos (min ((q + 1) * 2 ^ (planes column.ends - column.known.read) - 1 - first_code column.ends) (spread column.ends)))
highs_mono column p q h =
    let k = 2 ^ (planes column.ends - column.known.read) in
    let one : p + 1 ≤ q + 1 = omega (arith, h) in
    let more : (p + 1) * k ≤ (q + 1) * k = mul-le-mul_right k one in
    omega (arith, ints, more)

ends_mono : (end : End) (column : KnownColumn) (mask : List Bool) (r s : ℕ) → Counts column mask → has_row mask r ≡ true → has_row mask s ≡ true → number_at column r ≤ number_at column s →
    end_at end column r ≤ℤ end_at end column s
ends_mono end column mask r s h has_r has_s less =
    let p = get_or column.known.prefixes r 0 in
    let q = get_or column.known.prefixes s 0 in
    let a = numbers column mask h r (omega (arith, row_within mask r has_r, h.rows)) has_r in
    let b = numbers column mask h s (omega (arith, row_within mask s has_s, h.rows)) has_s in
    let up : p ≤ q = omega (arith, a.least, b.least, less) in
    by_end end (lows_mono column p q (number_at column r) (number_at column s) a b less) (highs_mono column p q up)
  where
    by_end : (end : End) → end_at Low column r ≤ℤ end_at Low column s → end_at High column r ≤ℤ end_at High column s → end_at end column r ≤ℤ end_at end column s
    by_end Low low high = low
    by_end High low high = high

-- ---- the extreme end

pub extreme_there : (extreme : Extreme) (end : End) (column : KnownColumn) (mask : List Bool) (row : ℕ) → Counts column mask → IsExtreme extreme column mask row →
    answer (kind_of extreme) (ends_in end column mask) ≡ Some (end_at end column row)
extreme_there Least end column mask row h best =
    least_is (ends_in end column mask) (end_at end column row) (stands_in (end_at end column) mask row best.has)
    (each_in (end_at end column) mask (λ x. end_at end column row ≤ℤ x) (λ r has. ends_mono end column mask row r h best.has has (best.furthest r has)))
extreme_there Greatest end column mask row h best =
    greatest_is (ends_in end column mask) (end_at end column row) (stands_in (end_at end column) mask row best.has)
    (each_in (end_at end column) mask (λ x. x ≤ℤ end_at end column row) (λ r has. ends_mono end column mask r row h has best.has (best.furthest r has)))

pub extreme_nowhere : (extreme : Extreme) (end : End) (column : KnownColumn) (mask : List Bool) → ((r : ℕ) → has_row mask r ≡ false) → answer (kind_of extreme) (ends_in end column mask) ≡ None
extreme_nowhere Least end column mask each = ap (answer Min) (none_in (end_at end column) mask each)
extreme_nowhere Greatest end column mask each = ap (answer Max) (none_in (end_at end column) mask each)

-- ---- before any digit is read each row is extreme

no_row : (mask : List Bool) → count_by (λ b. b) mask ≡ 0 → (r : ℕ) → has_row mask r ≡ false
no_row [] none r = refl
no_row (true ∷ mask) none r = absurd (omega (arith, none, sum_by-cons (λ b. cond {A = ℕ} b 1 0) true mask))
no_row (false ∷ mask) none zero = refl
no_row (false ∷ mask) none (suc r) = no_row mask (omega (arith, none, sum_by-cons (λ b. cond {A = ℕ} b 1 0) false mask)) r

both_zero : (extreme : Extreme) (a b : ℕ) → a ≡ 0 → b ≡ 0 → IsAsFar extreme a b
both_zero Least a b e f = omega (arith, e, f)
both_zero Greatest a b e f = omega (arith, e, f)

no_digit : (column : KnownColumn) (mask : List Bool) (r : ℕ) → Counts column mask → column.known.read - first_plane column.ends column.known.read ≡ 0 → has_row mask r ≡ true → number_at column r ≡ 0
no_digit column mask r h none has =
    let small : number_at column r < 2 ^ 0 = subst (λ k. number_at column r < 2 ^ k) none (numbers column mask h r (omega (arith, row_within mask r has, h.rows)) has).small in
    omega (arith, small)

pub extreme_unread : (extreme : Extreme) (column : KnownColumn) (mask : List Bool) (row : Option ℕ) → Counts column mask → column.known.read - first_plane column.ends column.known.read ≡ 0 →
    row ≡ position (λ b. b) mask → (IsNone row → count_by (λ b. b) mask ≡ 0) → IsExtremeRow extreme column mask row
extreme_unread extreme column mask None h none is empty = no_row mask (empty refl)
extreme_unread extreme column mask (Some row) h none is empty =
    let there = position-Some (λ b. b) mask row false (sym is) in
    record {
      has = there.1;
      furthest = λ r has. both_zero extreme (number_at column row) (number_at column r) (no_digit column mask row h none there.1) (no_digit column mask r h none has);
    }

-- ---- numbers beyond which none lies

-- no prefix lies beyond that of top
below_top : (column : KnownColumn) (r : ℕ) → IsKnownColumn column → r < rows_of_column column → get_or column.known.prefixes r 0 ≤ prefix_of column.ends column.known.read (Some (spread column.ends))
below_top column r known h =
    let d = planes column.ends - column.known.read in
    le-div (get_or column.known.prefixes r 0) (first_code column.ends + spread column.ends) (2 ^ d) (pow_pos d) (legal_code column.ends column.known.read (get_or column.known.prefixes r 0) (known.legal r 0 h))

-- so no number lies beyond that of a row at top
pub none_above : (column : KnownColumn) (mask : List Bool) (row : ℕ) → IsKnownColumn column → mask ≡ rows_where is_at_top column → slice_get mask row ≡ Some true → row < rows_of_column column →
    (r : ℕ) → r < rows_of_column column → number_at column r ≤ number_at column row
none_above column mask row known is on within r h =
    let p = get_or column.known.prefixes row 0 in
    let bit : is_at_top column.ends column.known.read p ≡ true =
    sym (get_or-map (is_at_top column.ends column.known.read) column.known.prefixes row 0 false within) ∙ ap (λ l. get_or l row false) (sym is) ∙ get_or_from_slice_get mask row true false on in
    let top = eqb-true p (prefix_of column.ends column.known.read (Some (spread column.ends))) bit in
    let low = below_top column r known h in
    omega (arith, top, low)

pub top_rows : (column : KnownColumn) (mask : List Bool) → mask ≡ rows_where is_at_top column → length mask ≡ rows_of_column column
top_rows column mask is = ap length is ∙ length-map column.known.prefixes (is_at_top column.ends column.known.read)
