-- Counts, ends and sums of a selection's pairs, by masks.
use Rattle.std.proofs.Common.{◌≡◌, ℕ, ◌+◌, ◌<◌, ◌≤◌, ℤ, pos, ◌≤ℤ◌, ◌+ℤ◌, Bool, true, false, not, ◌&&◌, ◌||◌, List, [], ◌∷◌, length, map, filter, get_or, count_by, refl, sym, ap, ◌∙◌, arith}
use Rattle.std.specs.declared.option.Option.{Option}
use Rattle.std.specs.Option.{option_or, unwrap_or}
use Rattle.std.specs.Simd.Lanes.{zip2}
use Rattle.std.proofs.lemmas.Bool.{false≢true}
use Rattle.std.proofs.lemmas.Int.{ints}
use Rattle.std.proofs.lemmas.List.{length-map}
use Rattle.std.proofs.lemmas.List.Sums.{count_by-le-length, length-filter}
use Rattle.std.proofs.lemmas.List.FromFn.{get_or-map-range_with_len, length-map-range_with_len}
use Rattle.std.proofs.lemmas.Simd.{get_or-zip2, length-zip2, map-map}
use Rattle.aggregates.specs.Widening.{widens}
use Rattle.aggregates.specs.declared.ends.End.{End}
use Rattle.aggregates.specs.declared.ends.End.TheVariants.{Low, High}
use Rattle.aggregates.specs.Selections.{IsPartOf, MayHaveValues, end_at, ends_in, has_row, highs_in, lows_in, rows_in, those_of}
use Rattle.aggregates.proofs.BlockWords.{row_within}
use Rattle.aggregates.proofs.MaskSums.{count_apart, total_apart}
use Rattle.aggregates.proofs.Widening.{never_any}
use Rattle.aggregates.proofs.BoundFacts.{greatest_or_zero, high_of_least_is, least_or_zero, low_of_greatest_is}
use Rattle.known_column.specs.Columns.{KnownColumn, numbers_at, rows_of_column}
use Rattle.query_model.specs.declared.bounds.Bound.{Bound}
use Rattle.query_model.specs.declared.bounds.Nullity.{Nullity}
use Rattle.query_model.specs.declared.query.ItemKind.TheVariants.{Max, Min}
use Rattle.query_model.specs.Answers.{answer, greatest, least, total}
use Rattle.query_model.specs.Bounds.{certain_count, certain_highs, certain_lows, high_of_least, highs, low_of_greatest, lows}
use Rattle.round_engine.specs.declared.selection.Selection.{Selection}
use Rattle.round_engine.specs.Selected.{IsSelection, pair_in, pairs_in}
use Rattle.round_engine.specs.SumEnds.{ends_of, inner_end, innermost, outermost, share_at, sum_at, widening_rows}
use Rattle.round_engine.proofs.Rows.{certain_numbers_of, certain_of, count_rows, narrowed, no_element}
use Rattle.round_engine.proofs.SumEnds.{adds, alone, high_stays, outermost_or_zero, shares, stands}

-- rows of one mask among those of another
among : (a b : Bool) → (b ≡ true → a ≡ true) → b ≡ (a && b)
among true b h = refl
among false true h = absurd (false≢true (h refl))
among false false h = refl

among_either : (a t m : Bool) → (m ≡ true → a ≡ true) → ((a && t) || m) ≡ (a && (t || m))
among_either true t m h = refl
among_either false t true h = absurd (false≢true (h refl))
among_either false t false h = refl

first_of : (a b : Bool) → (a && b) ≡ true → a ≡ true
first_of true b h = refl
first_of false b h = h

-- no row has no sum
pub total_of_none : (f : ℕ → ℤ) (mask : List Bool) → count_by (λ b. b) mask ≡ 0 → total (map f (rows_in mask)) ≡ pos 0
total_of_none f mask none = ap (λ rs. total (map f rs)) (no_element (rows_in mask) (sym (count_rows mask) ∙ none))

pub with_nothing : (z none : ℤ) → none ≡ pos 0 → z ≡ z +ℤ none
with_nothing z none h = omega (arith, ints, h)

pub same_bound : (n m : Nullity) (a b c d : ℤ) → n ≡ m → a ≡ b → c ≡ d → ◌≡◌ {A = Bound} (record { null = n; lo = a; hi = c }) (record { null = m; lo = b; hi = d })
same_bound n m a b c d e f g = cc

module _ (column : KnownColumn) (selection : Selection) (is : IsSelection column selection) where
  must_rows : rows_in selection.must ≡ filter (has_row selection.must) (rows_in selection.may)
  must_rows = narrowed selection.may selection.must (has_row selection.must) (is.rows.must ∙ sym is.rows.may) (λ r below. among (has_row selection.may r) (has_row selection.must r) (is.nested r))

  pub certain_is : count_by (λ b. b) selection.must ≡ certain_count (pairs_in column selection)
  certain_is = count_rows selection.must ∙ ap length must_rows ∙ sym (certain_of column selection.must (rows_in selection.may))

  pub all_is : count_by (λ b. b) selection.may ≡ length (pairs_in column selection)
  all_is = count_rows selection.may ∙ sym (length-map (rows_in selection.may) (pair_in column selection.must))

  pub lows_are : lows_in column selection.may ≡ lows (pairs_in column selection)
  lows_are = sym (map-map (λ p. p.low) (pair_in column selection.must) (rows_in selection.may))

  pub highs_are : highs_in column selection.may ≡ highs (pairs_in column selection)
  highs_are = sym (map-map (λ p. p.high) (pair_in column selection.must) (rows_in selection.may))

  pub ends_are : (e : End) → ends_in e column selection.may ≡ ends_of e (pairs_in column selection)
  ends_are Low = lows_are
  ends_are High = highs_are

  pub certain_lows_are : lows_in column selection.must ≡ certain_lows (pairs_in column selection)
  certain_lows_are = ap (map (λ r. (numbers_at column r).low)) must_rows ∙ sym (certain_numbers_of column selection.must (λ p. p.low) (rows_in selection.may))

  pub certain_highs_are : highs_in column selection.must ≡ certain_highs (pairs_in column selection)
  certain_highs_are = ap (map (λ r. (numbers_at column r).high)) must_rows ∙ sym (certain_numbers_of column selection.must (λ p. p.high) (rows_in selection.may))

  pub least_is : unwrap_or (answer Min (lows_in column selection.may)) (pos 0) ≡ least (lows (pairs_in column selection))
  least_is = least_or_zero (lows_in column selection.may) ∙ ap least lows_are

  pub greatest_is : unwrap_or (answer Max (highs_in column selection.may)) (pos 0) ≡ greatest (highs (pairs_in column selection))
  greatest_is = greatest_or_zero (highs_in column selection.may) ∙ ap greatest highs_are

  high_of_least_told : (o p : Option ℤ) → o ≡ answer Min (highs_in column selection.must) → p ≡ answer Max (highs_in column selection.may) → unwrap_or (option_or o p) (pos 0) ≡ high_of_least (pairs_in column selection)
  high_of_least_told o p least greatest =
      ap (λ x. unwrap_or (option_or x p) (pos 0)) (least ∙ ap (answer Min) certain_highs_are)
      ∙ ap (λ x. unwrap_or (option_or (answer Min (certain_highs (pairs_in column selection))) x) (pos 0)) (greatest ∙ ap (answer Max) highs_are)
      ∙ high_of_least_is (pairs_in column selection)

  low_of_greatest_told : (o p : Option ℤ) → o ≡ answer Max (lows_in column selection.must) → p ≡ answer Min (lows_in column selection.may) → unwrap_or (option_or o p) (pos 0) ≡ low_of_greatest (pairs_in column selection)
  low_of_greatest_told o p greatest least =
      ap (λ x. unwrap_or (option_or x p) (pos 0)) (greatest ∙ ap (answer Max) certain_lows_are)
      ∙ ap (λ x. unwrap_or (option_or (answer Max (certain_lows (pairs_in column selection))) x) (pos 0)) (least ∙ ap (answer Min) lows_are)
      ∙ low_of_greatest_is (pairs_in column selection)

  pub inner_end_told : (e : End) (o p : Option ℤ) → o ≡ innermost e (ends_in e column selection.must) → p ≡ outermost e (ends_in e column selection.may) → unwrap_or (option_or o p) (pos 0) ≡ inner_end e (pairs_in column selection)
  inner_end_told Low o p inner outer = low_of_greatest_told o p inner outer
  inner_end_told High o p inner outer = high_of_least_told o p inner outer

  -- the values of a selection's certain rows may be numbers
  pub must_values : MayHaveValues column selection.must
  must_values r has = is.values r (is.nested r has)

  pub must_part : IsPartOf selection.must selection.may
  must_part = record { rows = is.rows.must ∙ sym is.rows.may; nested = is.nested }

  -- ---- the rows that pass a test, and those that count for certain

  pub those_long : (test : ℕ → Bool) → length (those_of selection.may test) ≡ rows_of_column column
  those_long test = length-map-range_with_len (λ row. has_row selection.may row && test row) 0 (length selection.may) ∙ is.rows.may

  module _ (test : ℕ → Bool) (added : List Bool) (added_is : added ≡ zip2 (λ a b. a || b) (those_of selection.may test) selection.must) where
    pub added_long : length added ≡ rows_of_column column
    added_long = ap length added_is ∙ length-zip2 (λ a b. a || b) (those_of selection.may test) selection.must (those_long test ∙ sym is.rows.must) ∙ those_long test

    at_row : (r : ℕ) → r < length selection.may → has_row added r ≡ (has_row selection.may r && (test r || has_row selection.must r))
    at_row r below =
        ap (λ m. get_or m r false) added_is
        ∙ get_or-zip2 (λ a b. a || b) (those_of selection.may test) selection.must r false false false (omega (arith, below, those_long test, is.rows.may)) (omega (arith, below, is.rows.may, is.rows.must))
        ∙ ap (λ b. b || has_row selection.must r) (get_or-map-range_with_len (λ row. has_row selection.may row && test row) 0 (length selection.may) r r false below (omega arith))
        ∙ among_either (has_row selection.may r) (test r) (has_row selection.must r) (is.nested r)

    pub added_rows : rows_in added ≡ filter (λ r. test r || has_row selection.must r) (rows_in selection.may)
    added_rows = narrowed selection.may added (λ r. test r || has_row selection.must r) (added_long ∙ sym is.rows.may) at_row

  -- ---- the rows that pass a test and do not count for certain

  module _ (test : ℕ → Bool) (others : List Bool) (others_is : others ≡ zip2 (λ a b. a && not b) (those_of selection.may test) selection.must) where
    same_rows : length (those_of selection.may test) ≡ length selection.must
    same_rows = those_long test ∙ sym is.rows.must

    pub others_long : length others ≡ rows_of_column column
    others_long = ap length others_is ∙ length-zip2 (λ a b. a && not b) (those_of selection.may test) selection.must same_rows ∙ those_long test

    pub others_values : MayHaveValues column others
    others_values r has =
        let below : r < rows_of_column column = omega (arith, row_within others r has, others_long) in
        let here : has_row others r ≡ ((has_row selection.may r && test r) && not (has_row selection.must r)) =
        ap (λ m. get_or m r false) others_is
        ∙ get_or-zip2 (λ a b. a && not b) (those_of selection.may test) selection.must r false false false (omega (arith, below, those_long test)) (omega (arith, below, is.rows.must))
        ∙ ap (λ b. b && not (has_row selection.must r)) (get_or-map-range_with_len (λ row. has_row selection.may row && test row) 0 (length selection.may) r r false (omega (arith, below, is.rows.may)) (omega arith)) in
        is.values r (first_of (has_row selection.may r) (test r) (first_of (has_row selection.may r && test r) _ (sym here ∙ has)))

    pub total_with : (f : ℕ → ℤ) → total (map f (rows_in (zip2 (λ a b. a || b) (those_of selection.may test) selection.must))) ≡ total (map f (rows_in selection.must)) +ℤ total (map f (rows_in others))
    total_with f =
        total_apart f (those_of selection.may test) selection.must same_rows ∙ ap (λ m. total (map f (rows_in selection.must)) +ℤ total (map f (rows_in m))) (sym others_is)

    pub count_with : count_by (λ b. b) (zip2 (λ a b. a || b) (those_of selection.may test) selection.must) ≡ count_by (λ b. b) selection.must + count_by (λ b. b) others
    count_with =
        count_apart (those_of selection.may test) selection.must same_rows ∙ ap (λ m. count_by (λ b. b) selection.must + count_by (λ b. b) m) (sym others_is)

  -- ---- sums

  module _ (e : End) (others : List Bool) (others_is : others ≡ widening_rows e column selection) where
    abbrev all : List Bool
    all = zip2 (λ a b. a || b) (those_of selection.may (λ row. widens e (end_at e column row))) selection.must

    adding_rows : rows_in all ≡ filter (adds e column selection.must) (rows_in selection.may)
    adding_rows = added_rows (λ row. widens e (end_at e column row)) all refl

    adding_count : count_by (λ b. b) selection.must + count_by (λ b. b) others ≡ length (filter (adds e column selection.must) (rows_in selection.may))
    adding_count = sym (count_with (λ row. widens e (end_at e column row)) others others_is) ∙ count_rows all ∙ ap length adding_rows

    pub shares_are : total (ends_in e column selection.must) +ℤ total (ends_in e column others) ≡ total (map (share_at e) (pairs_in column selection))
    shares_are =
        sym (total_with (λ row. widens e (end_at e column row)) others others_is (end_at e column))
        ∙ ap (λ rs. total (map (end_at e column) rs)) adding_rows ∙ sym (shares e column selection.must (rows_in selection.may))

    pub sum_of_shares : 0 < count_by (λ b. b) selection.must + count_by (λ b. b) others → total (map (share_at e) (pairs_in column selection)) ≡ sum_at e (pairs_in column selection)
    sum_of_shares some = stands e column selection.must (rows_in selection.may) (omega (arith, some, adding_count))

    pub one_alone : count_by (λ b. b) selection.must + count_by (λ b. b) others ≡ 0 → unwrap_or (outermost e (ends_in e column selection.may)) (pos 0) ≡ sum_at e (pairs_in column selection)
    one_alone none =
        ap (λ ns. unwrap_or (outermost e ns) (pos 0)) (ends_are e) ∙ outermost_or_zero e (pairs_in column selection)
        ∙ alone e column selection.must (rows_in selection.may) (sym adding_count ∙ none)

  -- where all rows count for certain, no other widens the sum
  pub all_certain : (e : End) → certain_count (pairs_in column selection) ≡ length (pairs_in column selection) → total (ends_in e column selection.must) ≡ total (map (share_at e) (pairs_in column selection))
  all_certain e all =
      let others = widening_rows e column selection in
      let adding : ℕ → Bool = adds e column selection.must in
      let rows = rows_in selection.may in
      let few : length (filter adding rows) ≤ length rows = omega (arith, length-filter adding rows, count_by-le-length adding rows) in
      let none : count_by (λ b. b) others ≡ 0 = omega (arith, adding_count e others refl, few, certain_is, all_is, all, count_rows selection.may) in
      with_nothing _ _ (total_of_none (end_at e column) others none) ∙ shares_are e others refl

  -- ---- a column without a number below 0

  -- of the rows that need not count none widens the low end
  pub lows_share : pos 0 ≤ℤ column.ends.base → total (ends_in Low column selection.must) ≡ total (map (share_at Low) (pairs_in column selection))
  lows_share above =
      let others = widening_rows Low column selection in
      let none = never_any Low column selection.may selection.must (is.rows.must ∙ sym is.rows.may) above in
      with_nothing _ _ (total_of_none (end_at Low column) others none) ∙ shares_are Low others refl

  -- and each adds its number to the high end
  pub highs_share : pos 0 ≤ℤ column.ends.base → total (highs_in column selection.may) ≡ total (map (share_at High) (pairs_in column selection))
  highs_share above = each (rows_in selection.may)
    where
      each : (rs : List ℕ) → total (map (end_at High column) rs) ≡ total (map (share_at High) (map (pair_in column selection.must) rs))
      each [] = refl
      each (r ∷ rs) =
          ap (λ z. z +ℤ total (map (end_at High column) rs)) (sym (high_stays (has_row selection.must r) (numbers_at column r).low column.ends.base _ above))
          ∙ ap (λ z. share_at High (pair_in column selection.must r) +ℤ z) (each rs)
