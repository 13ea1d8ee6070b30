-- A selection of a column's rows, and the pairs of an item over the column.
use Rattle.std.proofs.Common.{◌≡◌, ℕ, zero, suc, ◌+◌, ◌<◌, ◌≤◌, ◌==◌, Bool, true, false, ◌&&◌, not, cond, List, [], ◌∷◌, length, map, filter, filter_map, get_or, replicate, count_by, refl, sym, ap, subst, ◌∙◌, arith}
use Rattle.std.specs.declared.option.Option.{Option}
use Rattle.std.specs.List.{cons_option, range_with_len}
use Rattle.std.specs.Simd.Lanes.{zip2}
use Rattle.std.proofs.lemmas.List.Sums.{count_by-le-length, sum_by-cons}
use Rattle.std.proofs.lemmas.List.FromFn.{get_or-map-range_with_len, length-map-range_with_len}
use Rattle.interval_calc.specs.Intervals.{Interval}
use Rattle.aggregates.specs.Selections.{MayHaveValues, has_row}
use Rattle.aggregates.proofs.BlockWords.{row_within}
use Rattle.aggregates.proofs.Values.{taken_from_possible}
use Rattle.kleene_filter.specs.Filters.{is_certain, is_possible, truth_at, truths_under}
use Rattle.known_column.specs.Columns as column
use Rattle.known_column.specs.Columns.{KnownColumn, is_sure, numbers_at, rows_of_column, rows_where}
use Rattle.known_column.specs.KnownTables.{KnownTable, column_at}
use Rattle.query_model.specs.declared.bounds.Nullity.TheVariants.{Always, Never, Possibly}
use Rattle.query_model.specs.declared.bounds.Truth.{Truth}
use Rattle.query_model.specs.declared.query.Shape.TheVariants.{Plain}
use Rattle.query_model.specs.Bounds.{Pair, pair_of, pairs}
use Rattle.query_model.specs.Knowledge.{ranges_of}
use Rattle.query_model.specs.Queries.{Aggregate, Column, Query}
use Rattle.query_model.specs.Truths.{may_be_null, may_be_number, null_of, span_of, truth_of}
use Rattle.round_engine.specs.declared.selection.Selection.{Selection}
use Rattle.round_engine.specs.Selected.{HasEach, IsSelection, pair_in, pairs_in}
use Rattle.round_engine.proofs.Masked.{certain_may, pair_by_masks, rows_by_column, sure_may, told_pair}
use Rattle.round_engine.proofs.RowPairs.{plain_pair}

-- ---- rows that give a pair where a test says so

abbrev pair_told : (ℕ → Bool) → (ℕ → Interval) → ℕ → Pair
pair_told certain span r = record { certain = certain r; low = (span r).low; high = (span r).high }

one_told : (certain all : Bool) (span : Interval) (f : ℕ → Pair) (r : ℕ) (rs : List ℕ) → f r ≡ record { certain = certain; low = span.low; high = span.high } →
    cons_option (told_pair certain all span) (map f rs) ≡ map f (cond all (r ∷ rs) rs)
one_told certain true span f r rs is = ap (λ p. p ∷ map f rs) (sym is)
one_told certain false span f r rs is = refl

pub pairs_told : (give : ℕ → Option Pair) (certain all : ℕ → Bool) (span : ℕ → Interval) (a n : ℕ) → ((r : ℕ) → a ≤ r → r < a + n → give r ≡ told_pair (certain r) (all r) (span r)) →
    filter_map give (range_with_len a n) ≡ map (pair_told certain span) (filter all (range_with_len a n))
pairs_told give certain all span a zero told = refl
pairs_told give certain all span a (suc n) told =
    ap (λ o. cons_option o (filter_map give (range_with_len (a + 1) n))) (told a (omega arith) (omega arith))
    ∙ ap (cons_option (told_pair (certain a) (all a) (span a))) (pairs_told give certain all span (a + 1) n (λ r above below. told r (omega arith) (omega arith)))
    ∙ one_told (certain a) (all a) (span a) (pair_told certain span) a (filter all (range_with_len (a + 1) n)) refl

-- ---- the rows of a column that a filter lets through

module _ (query : Query) (item : Aggregate) (columns : KnownTable) (plain : query.shape ≡ Plain) (truths : List Truth) (judged : truths ≡ truths_under query.pred columns) (known : KnownColumn) (c : ℕ)
    (arg : item.arg ≡ Column c) (there : known ≡ column_at columns c) (rows : rows_of_column known ≡ columns.frame.rows) (selection : Selection)
    (may_is : selection.may ≡ zip2 (λ a b. a && b) (map is_possible truths) (rows_where column.is_possible known)) (must_is : selection.must ≡ zip2 (λ a b. a && b) (map is_certain truths) (rows_where is_sure known)) where
  abbrev surely : ℕ → Bool
  surely r = is_certain (truth_at query.pred columns r) && not (may_be_null (null_of item.arg (ranges_of columns.frame columns.known r)))

  abbrev perhaps : ℕ → Bool
  perhaps r = is_possible (truth_at query.pred columns r) && may_be_number (null_of item.arg (ranges_of columns.frame columns.known r))

  told_rows : (selection.must ≡ map surely (range_with_len 0 columns.frame.rows)) × (selection.may ≡ map perhaps (range_with_len 0 columns.frame.rows))
  told_rows =
      let told = rows_by_column query item columns plain truths (map is_certain truths) (map is_possible truths) judged refl refl known c (rows_where is_sure known) (rows_where column.is_possible known) arg there rows refl refl in
      (must_is ∙ told.0, may_is ∙ told.1)

  long : (test : ℕ → Bool) (mask : List Bool) → mask ≡ map test (range_with_len 0 columns.frame.rows) → length mask ≡ columns.frame.rows
  long test mask is = ap length is ∙ length-map-range_with_len test 0 columns.frame.rows

  at_row : (test : ℕ → Bool) (mask : List Bool) → mask ≡ map test (range_with_len 0 columns.frame.rows) → (r : ℕ) → r < columns.frame.rows → has_row mask r ≡ test r
  at_row test mask is r below = ap (λ m. get_or m r false) is ∙ get_or-map-range_with_len test 0 columns.frame.rows r r false below (omega arith)

  pub selection_is : IsSelection known selection
  selection_is =
      let must_long = long surely selection.must told_rows.0 in
      let may_long = long perhaps selection.may told_rows.1 in
      record {
        rows = record { may = may_long ∙ sym rows; must = must_long ∙ sym rows };
        values = subst (MayHaveValues known) (sym may_is) (taken_from_possible known (map is_possible truths));
        nested = λ r has.
            let below : r < columns.frame.rows = omega (arith, row_within selection.must r has, must_long) in
            let ranges = ranges_of columns.frame columns.known r in
            at_row perhaps selection.may told_rows.1 r below ∙ sure_may (truth_of query.pred ranges) (null_of item.arg ranges) (sym (at_row surely selection.must told_rows.0 r below) ∙ has);
      }

  -- its pairs are those of the item
  pub selected_pairs : pairs query item [] columns.frame columns.known ≡ pairs_in known selection
  selected_pairs =
      let n = columns.frame.rows in
      pairs_told (λ r. pair_of query item [] (ranges_of columns.frame columns.known r)) (has_row selection.must) (has_row selection.may) (numbers_at known) 0 n (λ r above below.
      let ranges = ranges_of columns.frame columns.known r in
      let span : span_of item.arg ranges ≡ numbers_at known r = ap (λ e. span_of e ranges) arg ∙ ap (λ (w : KnownColumn). numbers_at w r) (sym there) in
      plain_pair query item ranges plain ∙ pair_by_masks (truth_of query.pred ranges) (null_of item.arg ranges) (span_of item.arg ranges)
      ∙ ap (told_pair (surely r) (perhaps r)) span
      ∙ ap (λ b. told_pair b (perhaps r) (numbers_at known r)) (sym (at_row surely selection.must told_rows.0 r (omega arith)))
      ∙ ap (λ b. told_pair (has_row selection.must r) b (numbers_at known r)) (sym (at_row perhaps selection.may told_rows.1 r (omega arith))))
      ∙ ap (λ k. map (pair_in known selection.must) (filter (has_row selection.may) (range_with_len 0 k))) (sym (long perhaps selection.may told_rows.1))

-- ---- a column that is never null

-- a mask's rows that pass a test are all of them, where each prefix passes
both_all : (test : ℕ → Bool) (mask : List Bool) (prefixes : List ℕ) → ((p : ℕ) → test p ≡ true) → length mask ≡ length prefixes → mask ≡ zip2 (λ a b. a && b) mask (map test prefixes)
both_all test [] prefixes all long = refl
both_all test (m ∷ mask) [] all long = absurd (omega (arith, long))
both_all test (m ∷ mask) (p ∷ prefixes) all long = ap (λ b. b ∷ mask) (both m (test p) (all p)) ∙ ap (λ ms. (m && test p) ∷ ms) (both_all test mask prefixes all (omega (arith, long)))
  where
    both : (m t : Bool) → t ≡ true → m ≡ (m && t)
    both true true e = refl
    both true false e = sym e
    both false t e = refl

pub never_null : (known : KnownColumn) (mask : List Bool) → known.ends.nullable ≡ false → length mask ≡ rows_of_column known →
    (mask ≡ zip2 (λ a b. a && b) mask (rows_where is_sure known)) × (mask ≡ zip2 (λ a b. a && b) mask (rows_where column.is_possible known))
never_null known mask plain long = (both_all (is_sure known.ends known.known.read) mask known.known.prefixes sure long, both_all (column.is_possible known.ends known.known.read) mask known.known.prefixes possible long)
  where
    sure : (p : ℕ) → is_sure known.ends known.known.read p ≡ true
    sure p = ap (λ b. not (may_be_null (cond (b && (p == 0)) (cond (known.known.read == 0) Possibly Always) Never))) plain

    possible : (p : ℕ) → column.is_possible known.ends known.known.read p ≡ true
    possible p = ap (λ b. may_be_number (cond (b && (p == 0)) (cond (known.known.read == 0) Possibly Always) Never)) plain

-- ---- a condition that surely holds at each row

-- a mask that counts as many rows as it has has each
pub has_each : (mask : List Bool) → length mask ≤ count_by (λ b. b) mask → HasEach mask
has_each [] h = refl
has_each (true ∷ mask) h = ap (λ l. true ∷ l) (has_each mask (omega (arith, h, sum_by-cons (λ b. cond {A = ℕ} b 1 0) true mask)))
has_each (false ∷ mask) h = absurd (omega (arith, h, sum_by-cons (λ b. cond {A = ℕ} b 1 0) false mask, count_by-le-length {X = Bool} (λ b. b) mask))

-- of a mask's rows it leaves out none
pub left_whole : (within mask : List Bool) → length within ≡ length mask → HasEach mask → within ≡ zip2 (λ a b. a && b) within mask
left_whole within mask long each = whole within (length mask) long ∙ ap (zip2 (λ a b. a && b) within) (sym each)
  where
    whole : (within : List Bool) (n : ℕ) → length within ≡ n → within ≡ zip2 (λ a b. a && b) within (replicate n true)
    whole [] zero h = refl
    whole [] (suc n) h = absurd (omega (arith, h))
    whole (b ∷ within) zero h = absurd (omega (arith, h))
    whole (true ∷ within) (suc n) h = ap (λ l. true ∷ l) (whole within n (omega (arith, h)))
    whole (false ∷ within) (suc n) h = ap (λ l. false ∷ l) (whole within n (omega (arith, h)))

pub possible_each : (truths : List Truth) → HasEach (map is_certain truths) → HasEach (map is_possible truths)
possible_each [] each = refl
possible_each (t ∷ truths) each =
    ap (λ b. b ∷ map is_possible truths) (certain_may t (first (is_certain t) (map is_certain truths) _ each))
    ∙ ap (λ l. true ∷ l) (possible_each truths (others (is_certain t) (map is_certain truths) _ each))
  where
    first : (b : Bool) (xs zs : List Bool) → (b ∷ xs) ≡ (true ∷ zs) → b ≡ true
    first b xs zs e = cc

    others : (b : Bool) (xs zs : List Bool) → (b ∷ xs) ≡ (true ∷ zs) → xs ≡ zs
    others b xs zs e = cc
