-- Pairs that masks tell, and how many they are.
use Rattle.std.proofs.Common.{◌≡◌, ℕ, zero, suc, ◌+◌, ◌<◌, ◌≤◌, ℤ, pos, Bool, true, false, ◌&&◌, not, cond, List, [], ◌∷◌, length, map, filter, filter_map, get_or, slice_index, count_by, Some, None, refl, sym, ap, subst, ◌∙◌, arith, if◌then◌else◌}
use Rattle.std.specs.declared.option.Option.{Option}
use Rattle.std.specs.List.{cons_option, range_with_len}
use Rattle.std.specs.Simd.Lanes.{zip2}
use Rattle.std.proofs.lemmas.Bool.{false≢true}
use Rattle.std.proofs.lemmas.List.{get_or-map, length-map}
use Rattle.std.proofs.lemmas.List.Sums.{length-filter, sum_by-cons}
use Rattle.std.proofs.lemmas.List.FromFn.{fill_by_all, get_or-map-range_with_len, length-map-range_with_len}
use Rattle.std.proofs.lemmas.Simd.{get_or-zip2, length-zip2, map-map}
use Rattle.interval_calc.specs.Intervals.{Interval}
use Rattle.query_model.specs.declared.bounds.Nullity.{Nullity}
use Rattle.query_model.specs.declared.bounds.Nullity.TheVariants.{Never, Possibly, Always}
use Rattle.query_model.specs.declared.bounds.Truth.{Truth}
use Rattle.query_model.specs.declared.bounds.Truth.TheVariants.{False, Unknown, True}
use Rattle.query_model.specs.declared.bounds.Bound.{Bound}
use Rattle.query_model.specs.declared.query.ItemKind.{ItemKind}
use Rattle.query_model.specs.declared.query.ItemKind.TheVariants.{Count, Sum, Min, Max, Avg}
use Rattle.query_model.specs.declared.query.Shape.TheVariants.{Plain}
use Rattle.query_model.specs.Queries.{Aggregate, Query, Column}
use Rattle.query_model.specs.Bounds.{Pair, bound_of, certain_count, pair_unless_false, pairs}
use Rattle.query_model.specs.Knowledge.{known_at, prefix_at, ranges_of}
use Rattle.query_model.specs.Truths.{and_of, may_be_null, may_be_number, null_of, span_of, truth_of, truth_of_number}
use Rattle.daq_table.specs.declared.head.Ends.{Ends}
use Rattle.daq_table.specs.Tables.{ends_at}
use Rattle.known_column.specs.Columns as column
use Rattle.known_column.specs.Columns.{KnownColumn, is_sure, rows_of_column, rows_where}
use Rattle.known_column.specs.KnownTables.{KnownTable, column_at}
use Rattle.kleene_filter.specs.Filters.{is_certain, is_possible, is_unknown, truth_at, truths_under}
use Rattle.round_engine.specs.Counts.{is_count}
use Rattle.round_engine.proofs.RowPairs.{plain_pair}

-- the pair of a row that may count and perhaps surely does
abbrev pub told_pair : Bool → Bool → Interval → Option Pair
told_pair certain all span = if all then Some (record { certain = certain; low = span.low; high = span.high }) else None

-- a row gives a value surely where its condition surely holds and its argument is surely not null, and may give one where both may be so
pub pair_by_masks : (t : Truth) (null : Nullity) (span : Interval) → pair_unless_false (and_of t (truth_of_number null)) span ≡ told_pair (is_certain t && not (may_be_null null)) (is_possible t && may_be_number null) span
pair_by_masks False Never span = refl
pair_by_masks False Possibly span = refl
pair_by_masks False Always span = refl
pair_by_masks Unknown Never span = refl
pair_by_masks Unknown Possibly span = refl
pair_by_masks Unknown Always span = refl
pair_by_masks True Never span = refl
pair_by_masks True Possibly span = refl
pair_by_masks True Always span = refl

-- the same where the argument is never null
pub pair_by_filter : (t : Truth) (span : Interval) → pair_unless_false (and_of t (truth_of_number Never)) span ≡ told_pair (is_certain t) (is_possible t) span
pair_by_filter False span = refl
pair_by_filter Unknown span = refl
pair_by_filter True span = refl

pub certain_may : (t : Truth) → is_certain t ≡ true → is_possible t ≡ true
certain_may False h = absurd (false≢true h)
certain_may Unknown h = refl
certain_may True h = refl

pub sure_may : (t : Truth) (null : Nullity) → (is_certain t && not (may_be_null null)) ≡ true → (is_possible t && may_be_number null) ≡ true
sure_may False null h = absurd (false≢true h)
sure_may Unknown null h = absurd (false≢true h)
sure_may True Never h = refl
sure_may True Possibly h = absurd (false≢true h)
sure_may True Always h = absurd (false≢true h)

-- ---- counts

-- so many rows count for certain, and so many may
abbrev pub AreCounted : (ℕ → Bool) → (ℕ → Bool) → List ℕ → List Pair → Type 0
AreCounted certain all rows ps = (certain_count ps ≡ length (filter certain rows)) × (length ps ≡ length (filter all rows))

one_more : (certain all : Bool) (span : Interval) (row : ℕ) (ps : List Pair) (cs ms : List ℕ) → (certain ≡ true → all ≡ true) → certain_count ps ≡ length cs → length ps ≡ length ms →
    (certain_count (cons_option (told_pair certain all span) ps) ≡ length (cond certain (row ∷ cs) cs)) × (length (cons_option (told_pair certain all span) ps) ≡ length (cond all (row ∷ ms) ms))
one_more true true span row ps cs ms nested h k = (ap suc h, ap suc k)
one_more true false span row ps cs ms nested h k = absurd (false≢true (nested refl))
one_more false true span row ps cs ms nested h k = (h, ap suc k)
one_more false false span row ps cs ms nested h k = (h, k)

pub counted : (give : ℕ → Option Pair) (certain all : ℕ → Bool) (span : ℕ → Interval) (a n : ℕ) →
    ((r : ℕ) → a ≤ r → r < a + n → (give r ≡ told_pair (certain r) (all r) (span r)) × (certain r ≡ true → all r ≡ true)) →
    AreCounted certain all (range_with_len a n) (filter_map give (range_with_len a n))
counted give certain all span a zero told = (refl, refl)
counted give certain all span a (suc n) told =
    let here = told a (omega arith) (omega arith) in
    let rest = counted give certain all span (a + 1) n (λ r above below. told r (omega arith) (omega arith)) in
    subst (λ o. (certain_count (cons_option o (filter_map give (range_with_len (a + 1) n))) ≡ length (filter certain (a ∷ range_with_len (a + 1) n)))
    × (length (cons_option o (filter_map give (range_with_len (a + 1) n))) ≡ length (filter all (a ∷ range_with_len (a + 1) n)))) (sym here.0)
    (one_more (certain a) (all a) (span a) a _ _ _ here.1 rest.0 rest.1)

-- rows are counted by their truths or by the bits of these
pub count_tested : (test : Truth → Bool) (truths : List Truth) → count_by test truths ≡ count_by (λ b. b) (map test truths)
count_tested test [] = refl
count_tested test (t ∷ truths) =
    sum_by-cons (λ u. cond {A = ℕ} (test u) 1 0) t truths ∙ ap (λ n. cond (test t) 1 0 + n) (count_tested test truths) ∙ sym (sum_by-cons (λ b. cond {A = ℕ} b 1 0) (test t) (map test truths))

-- those that may pass surely do, or it is unknown
pub count_parted : (truths : List Truth) → count_by is_possible truths ≡ count_by is_certain truths + count_by is_unknown truths
count_parted [] = refl
count_parted (t ∷ truths) =
    omega (
      arith,
      count_parted truths,
      one t,
      sum_by-cons (λ u. cond {A = ℕ} (is_possible u) 1 0) t truths,
      sum_by-cons (λ u. cond {A = ℕ} (is_certain u) 1 0) t truths,
      sum_by-cons (λ u. cond {A = ℕ} (is_unknown u) 1 0) t truths,
    )
  where
    one : (t : Truth) → cond {A = ℕ} (is_possible t) 1 0 ≡ cond {A = ℕ} (is_certain t) 1 0 + cond {A = ℕ} (is_unknown t) 1 0
    one False = refl
    one Unknown = refl
    one True = refl

-- what a mask counts of rows that a test tells
tested_length : (test : ℕ → Bool) (a n : ℕ) → length (filter (λ b. b) (map test (range_with_len a n))) ≡ length (filter test (range_with_len a n))
tested_length test a zero = refl
tested_length test a (suc n) = same (test a) (test a) _ a _ (tested_length test (a + 1) n)
  where
    same : (b x : Bool) (xs : List Bool) (k : ℕ) (ks : List ℕ) → length xs ≡ length ks → length (cond b (x ∷ xs) xs) ≡ length (cond b (k ∷ ks) ks)
    same true x xs k ks h = ap suc h
    same false x xs k ks h = h

pub count-tested : (test : ℕ → Bool) (a n : ℕ) → count_by (λ b. b) (map test (range_with_len a n)) ≡ length (filter test (range_with_len a n))
count-tested test a n = sym (length-filter (λ b. b) (map test (range_with_len a n))) ∙ tested_length test a n

-- rows that two masks have
pub both_tested : (f g : ℕ → Bool) (xs ys : List Bool) (n : ℕ) → xs ≡ map f (range_with_len 0 n) → length ys ≡ n → ((k : ℕ) → k < n → get_or ys k false ≡ g k) →
    zip2 (λ a b. a && b) xs ys ≡ map (λ r. f r && g r) (range_with_len 0 n)
both_tested f g xs ys n is rows each =
    let long : length xs ≡ n = ap length is ∙ length-map-range_with_len f 0 n in
    fill_by_all (λ r. f r && g r) (zip2 (λ a b. a && b) xs ys) n false (length-zip2 (λ a b. a && b) xs ys (long ∙ sym rows) ∙ long)
    (λ k below. get_or-zip2 (λ a b. a && b) xs ys k false false false (omega (arith, long)) (omega (arith, rows))
    ∙ ap (λ b. b && get_or ys k false) (ap (λ l. get_or l k false) is ∙ get_or-map-range_with_len f 0 n k k false below (omega arith))
    ∙ ap (λ b. f k && b) (each k below))

-- ---- the pairs of an item

module _ (query : Query) (item : Aggregate) (columns : KnownTable) (plain : query.shape ≡ Plain) where
  without_null : ((r : ℕ) → null_of item.arg (ranges_of columns.frame columns.known r) ≡ Never) →
      AreCounted (λ r. is_certain (truth_at query.pred columns r)) (λ r. is_possible (truth_at query.pred columns r)) (range_with_len 0 columns.frame.rows) (pairs query item [] columns.frame columns.known)
  without_null never = counted _ _ _ (λ r. span_of item.arg (ranges_of columns.frame columns.known r)) 0 columns.frame.rows (λ r above below.
      let ranges = ranges_of columns.frame columns.known r in (
        plain_pair query item ranges plain ∙ ap (λ n. pair_unless_false (and_of (truth_of query.pred ranges) (truth_of_number n)) (span_of item.arg ranges)) (never r)
            ∙ pair_by_filter (truth_of query.pred ranges) (span_of item.arg ranges),
        certain_may (truth_of query.pred ranges),
      ))

  -- a mask of the filter, as a test of the rows
  pub tested : (f : Truth → Bool) (mask : List Bool) (truths : List Truth) → mask ≡ map f truths → truths ≡ truths_under query.pred columns → mask ≡ map (λ r. f (truth_at query.pred columns r)) (range_with_len 0 columns.frame.rows)
  tested f mask truths is judged = is ∙ ap (map f) judged ∙ map-map f (truth_at query.pred columns) (range_with_len 0 columns.frame.rows)

  -- a mask of the column, at a row
  pub marked : (test : Ends → ℕ → ℕ → Bool) (known : KnownColumn) (c : ℕ) (mask : List Bool) → known ≡ column_at columns c → mask ≡ rows_where test known → rows_of_column known ≡ columns.frame.rows →
      (length mask ≡ columns.frame.rows) × ((k : ℕ) → k < columns.frame.rows → get_or mask k false ≡ test (ends_at columns.frame c) (known_at columns.known c).read (prefix_at columns.known c k))
  marked test known c mask there is rows = (
    ap length is ∙ length-map known.known.prefixes (test known.ends known.known.read) ∙ rows,
    λ k below. ap (λ m. get_or m k false) is ∙ get_or-map (test known.ends known.known.read) known.known.prefixes k 0 false (omega (arith, rows))
        ∙ ap (λ (w : KnownColumn). test w.ends w.known.read (slice_index w.known.prefixes k)) there,
  )

  module _ (truths : List Truth) (must may : List Bool) (judged : truths ≡ truths_under query.pred columns) (must_is : must ≡ map is_certain truths) (may_is : may ≡ map is_possible truths) where
    pub counted_by_filter : ((r : ℕ) → null_of item.arg (ranges_of columns.frame columns.known r) ≡ Never) →
        (count_by (λ b. b) must ≡ certain_count (pairs query item [] columns.frame columns.known)) × (count_by (λ b. b) may ≡ length (pairs query item [] columns.frame columns.known))
    counted_by_filter never =
        let told = without_null never in (
          ap (count_by (λ b. b)) (tested is_certain must truths must_is judged) ∙ count-tested _ 0 columns.frame.rows ∙ sym told.0,
          ap (count_by (λ b. b)) (tested is_possible may truths may_is judged) ∙ count-tested _ 0 columns.frame.rows ∙ sym told.1,
        )

    -- the rows that the filter and a column let through
    pub rows_by_column : (known : KnownColumn) (c : ℕ) (sure possible : List Bool) → item.arg ≡ Column c → known ≡ column_at columns c → rows_of_column known ≡ columns.frame.rows →
        sure ≡ rows_where is_sure known → possible ≡ rows_where column.is_possible known →
        (zip2 (λ a b. a && b) must sure ≡ map (λ r. is_certain (truth_at query.pred columns r) && not (may_be_null (null_of item.arg (ranges_of columns.frame columns.known r)))) (range_with_len 0 columns.frame.rows))
        × (zip2 (λ a b. a && b) may possible ≡ map (λ r. is_possible (truth_at query.pred columns r) && may_be_number (null_of item.arg (ranges_of columns.frame columns.known r))) (range_with_len 0 columns.frame.rows))
    rows_by_column known c sure possible arg there rows sure_is possible_is =
        let n = columns.frame.rows in
        let sure_at = marked is_sure known c sure there sure_is rows in
        let possible_at = marked column.is_possible known c possible there possible_is rows in (
          both_tested _ _ must sure n (tested is_certain must truths must_is judged) sure_at.0 (λ k below. sure_at.1 k below ∙ ap (λ e. not (may_be_null (null_of e (ranges_of columns.frame columns.known k)))) (sym arg)),
          both_tested _ _ may possible n (tested is_possible may truths may_is judged) possible_at.0 (λ k below. possible_at.1 k below ∙ ap (λ e. may_be_number (null_of e (ranges_of columns.frame columns.known k))) (sym arg)),
        )

-- ---- the items that are counted

pub count_kind : (kind : ItemKind) (b : Bool) → (is_count kind && b) ≡ true → (kind ≡ Count) × (b ≡ true)
count_kind Count b h = (refl, h)
count_kind Sum b h = absurd (false≢true h)
count_kind Min b h = absurd (false≢true h)
count_kind Max b h = absurd (false≢true h)
count_kind Avg b h = absurd (false≢true h)

pub count_bound : (kind : ItemKind) (ps : List Pair) (low high : ℤ) → kind ≡ Count → low ≡ pos (certain_count ps) → high ≡ pos (length ps) → ◌≡◌ {A = Bound} (record { null = Never; lo = low; hi = high }) (bound_of kind ps)
count_bound kind ps low high is lo hi = subst (λ k. ◌≡◌ {A = Bound} (record { null = Never; lo = low; hi = high }) (bound_of k ps)) (sym is) (same low (pos (certain_count ps)) high (pos (length ps)) lo hi)
  where
    same : (a b c d : ℤ) → a ≡ b → c ≡ d → ◌≡◌ {A = Bound} (record { null = Never; lo = a; hi = c }) (record { null = Never; lo = b; hi = d })
    same a b c d e f = cc
