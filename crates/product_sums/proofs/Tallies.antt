-- What counts and sums of ends tell of the pairs of a mask's rows.
use Rattle.std.proofs.Common.{◌≡◌, ℕ, suc, ◌<◌, ◌==◌, ℤ, pos, ◌+ℤ◌, ◌≤ℤ◌, Bool, true, false, ◌&&◌, ◌||◌, cond, if◌then◌else◌, List, [], ◌∷◌, length, map, count_by, IsTrue, Option, None, refl, ap, sym, ◌∙◌, arith}
use Rattle.std.specs.Int.{int_min, int_max}
use Rattle.std.specs.Simd.Lanes.{zip2}
use Rattle.std.proofs.lemmas.Bool.{false≢true}
use Rattle.std.proofs.lemmas.Int.{ints, clamps}
use Rattle.std.proofs.lemmas.List.{length-map}
use Rattle.std.proofs.lemmas.Simd.{map-map}
use Rattle.aggregates.specs.declared.ends.End.TheVariants.{Low, High}
use Rattle.aggregates.specs.declared.tally.Tally.{Tally}
use Rattle.aggregates.specs.Selections.{IsPartOf, has_row, rows_in}
use Rattle.aggregates.specs.Tallies.{tally_of}
use Rattle.aggregates.proofs.BlockWords.{row_within}
use Rattle.daq_table.specs.Tables.{Frame}
use Rattle.known_column.specs.KnownTables.{IsKnownTable, KnownTable}
use Rattle.query_model.specs.declared.query.ItemKind.{ItemKind}
use Rattle.query_model.specs.declared.query.ItemKind.TheVariants.{Count, Sum, Min, Max, Avg}
use Rattle.query_model.specs.Answers.{answer, total}
use Rattle.query_model.specs.Bounds.{Pair, certain_count, high_share, highs, low_share, lows}
use Rattle.query_model.specs.Queries.{Term}
use Rattle.query_model.specs.Validity.{IsSumKind}
use Rattle.product_sums.specs.Products.{is_never_negative, is_never_positive, keeps_sign, pair_at, pairs_of, sum_over, term_end}
use Rattle.product_sums.proofs.RowSums.{over_both, over_ones, over_rows, over_same}
use Rattle.product_sums.proofs.TermEnds.{not_above, not_below, ordered}

-- the rows of a mask that another, of some of its rows, has too
same_rows : (may must : List Bool) → length must ≡ length may → ((r : ℕ) → IsTrue (has_row must r) → IsTrue (has_row may r)) → zip2 (λ a b. a && b) may must ≡ must
same_rows [] [] e nested = refl
same_rows [] (b ∷ must) e nested = absurd (omega (arith, e))
same_rows (a ∷ may) [] e nested = absurd (omega (arith, e))
same_rows (a ∷ may) (b ∷ must) e nested = ap (λ x. x ∷ zip2 (λ a b. a && b) may must) (first a b (nested 0)) ∙ ap (λ l. b ∷ l) (same_rows may must (omega (arith, e)) (λ r. nested (suc r)))
  where
    first : (a b : Bool) → (b ≡ true → a ≡ true) → (a && b) ≡ b
    first true b h = refl
    first false true h = absurd (false≢true (h refl))
    first false false h = refl

certain_total : (f : ℕ → Pair) (rs : List ℕ) → pos (certain_count (map f rs)) ≡ total (map (λ r. cond (f r).certain (pos 1) (pos 0)) rs)
certain_total f [] = refl
certain_total f (r ∷ rs) = step (f r).certain (f r) _ _ (certain_total f rs)
  where
    step : (b : Bool) (p : Pair) (qs : List Pair) (z : ℤ) → pos (length qs) ≡ z → pos (length (cond b (p ∷ qs) qs)) ≡ cond b (pos 1) (pos 0) +ℤ z
    step true p qs z e = omega (arith, ints, e)
    step false p qs z e = omega (arith, ints, e)

all_total : (rs : List ℕ) → pos (length rs) ≡ total (map (λ r. pos 1) rs)
all_total [] = refl
all_total (r ∷ rs) = (let rest = all_total rs in omega (arith, ints, rest))

same_tally : (c a c' a' : ℕ) (l h l' h' : Option ℤ) (s t s' t' : ℤ) → c ≡ c' → a ≡ a' → l ≡ l' → h ≡ h' → s ≡ s' → t ≡ t' →
    ◌≡◌ {A = Tally}
    (record { certain = c; all = a; least_low = l; greatest_high = h; least_certain_high = None; greatest_certain_low = None; low_sum = s; high_sum = t })
    (record { certain = c'; all = a'; least_low = l'; greatest_high = h'; least_certain_high = None; greatest_certain_low = None; low_sum = s'; high_sum = t' })
same_tally c a c' a' l h l' h' s t s' t' e f g i j k = cc

positive : (n m : ℕ) → pos n ≡ pos m → n ≡ m
positive n m e = omega (arith, ints, e)

rows_counted : (mask : List Bool) → count_by (λ b. b) mask ≡ length (rows_in mask)
rows_counted mask = positive _ _ (sym (over_ones mask) ∙ sym (over_rows (λ r. pos 1) mask) ∙ sym (all_total (rows_in mask)))

-- of no row there are no ends
pub no_end : (kind : ItemKind) (certain : ℕ) (f : ℕ → ℤ) (mask : List Bool) → count_by (λ b. b) mask ≡ 0 → answer kind [] ≡ None → None ≡ (if certain == 0 then answer kind (map f (rows_in mask)) else None)
no_end kind certain f mask none without =
    either (certain == 0)
    ∙ ap (λ (o : Option ℤ). if certain == 0 then o else None) (sym without ∙ ap (λ rs. answer kind (map f rs)) (sym (empty (rows_in mask) (sym (rows_counted mask) ∙ none))))
  where
    either : (b : Bool) → ◌≡◌ {A = Option ℤ} None (if b then None else None)
    either true = refl
    either false = refl

    empty : (rs : List ℕ) → length rs ≡ 0 → rs ≡ []
    empty [] e = refl
    empty (r ∷ rs) e = absurd (omega (arith, e))

-- an expression that keeps its sign and may be below 0 is never above 0
pub other_sign : (frame : Frame) (term : Term) → keeps_sign frame term ≡ true → is_never_negative frame term ≡ false → is_never_positive frame term ≡ true
other_sign frame term keeps may = ap (λ b. b || is_never_positive frame term) (sym may) ∙ keeps

module _ (table : KnownTable) (known : IsKnownTable table) (term : Term) (may must : List Bool) (rows : length may ≡ table.frame.rows) (part : IsPartOf must may) where
  abbrev low : ℕ → ℤ
  low = term_end table Low term

  abbrev high : ℕ → ℤ
  high = term_end table High term

  abbrev pairs : List Pair
  pairs = pairs_of table term may must

  below : (r : ℕ) → IsTrue (has_row may r) → r < table.frame.rows
  below r has = omega (arith, row_within may r has, rows)

  -- what the rows that surely count give
  over_certain : (f : ℕ → ℤ) → sum_over may (λ r. cond (has_row must r) (f r) (pos 0)) ≡ sum_over must f
  over_certain f = sym (over_both may must f part.rows) ∙ ap (λ m. sum_over m f) (same_rows may must part.rows part.nested)

  certain_is : count_by (λ b. b) must ≡ certain_count pairs
  certain_is =
      positive _ _
      (sym (over_ones must) ∙ sym (over_certain (λ r. pos 1)) ∙ sym (over_rows (λ r. cond (has_row must r) (pos 1) (pos 0)) may) ∙ sym (certain_total (pair_at table term must) (rows_in may)))

  all_is : count_by (λ b. b) may ≡ length pairs
  all_is = rows_counted may ∙ sym (length-map (rows_in may) (pair_at table term must))

  lows_are : map low (rows_in may) ≡ lows pairs
  lows_are = sym (map-map (λ p. p.low) (pair_at table term must) (rows_in may))

  highs_are : map high (rows_in may) ≡ highs pairs
  highs_are = sym (map-map (λ p. p.high) (pair_at table term must) (rows_in may))

  total_lows : (over : List Bool) → sum_over over low ≡ sum_over may (λ r. low_share (pair_at table term must r)) → total (map low (rows_in over)) ≡ total (map low_share pairs)
  total_lows over same = over_rows low over ∙ same ∙ sym (over_rows (λ r. low_share (pair_at table term must r)) may) ∙ ap total (sym (map-map low_share (pair_at table term must) (rows_in may)))

  total_highs : (over : List Bool) → sum_over over high ≡ sum_over may (λ r. high_share (pair_at table term must r)) → total (map high (rows_in over)) ≡ total (map high_share pairs)
  total_highs over same = over_rows high over ∙ same ∙ sym (over_rows (λ r. high_share (pair_at table term must r)) may) ∙ ap total (sym (map-map high_share (pair_at table term must) (rows_in may)))

  -- what is never below 0
  module _ (never : is_never_negative table.frame term ≡ true) where
    lowered : (b : Bool) (l : ℤ) → pos 0 ≤ℤ l → (if b then l else int_min l (pos 0)) ≡ cond b l (pos 0)
    lowered true l some = refl
    lowered false l some = omega (arith, ints, clamps)

    raised : (b : Bool) (h : ℤ) → pos 0 ≤ℤ h → (if b then h else int_max h (pos 0)) ≡ h
    raised true h some = refl
    raised false h some = omega (arith, ints, clamps)

    pub low_of_certain : total (map low (rows_in must)) ≡ total (map low_share pairs)
    low_of_certain =
        total_lows must
        (sym (over_certain low) ∙ over_same may (λ r. cond (has_row must r) (low r) (pos 0)) (λ r. low_share (pair_at table term must r)) (λ r has. sym (lowered (has_row must r) (low r) (not_below table known r (below r has) term never))))

    pub high_of_all : total (map high (rows_in may)) ≡ total (map high_share pairs)
    high_of_all =
        total_highs may
        (over_same may high (λ r. high_share (pair_at table term must r)) (λ r has.
        let some = not_below table known r (below r has) term never in
        let more = ordered table known r (below r has) term in
        sym (raised (has_row must r) (high r) (omega (arith, ints)))))

  -- what is never above 0
  module _ (never : is_never_positive table.frame term ≡ true) where
    lowered_all : (b : Bool) (l : ℤ) → l ≤ℤ pos 0 → (if b then l else int_min l (pos 0)) ≡ l
    lowered_all true l some = refl
    lowered_all false l some = omega (arith, ints, clamps)

    raised_certain : (b : Bool) (h : ℤ) → h ≤ℤ pos 0 → (if b then h else int_max h (pos 0)) ≡ cond b h (pos 0)
    raised_certain true h some = refl
    raised_certain false h some = omega (arith, ints, clamps)

    pub low_of_all : total (map low (rows_in may)) ≡ total (map low_share pairs)
    low_of_all =
        total_lows may
        (over_same may low (λ r. low_share (pair_at table term must r)) (λ r has.
        let some = not_above table known r (below r has) term never in
        let more = ordered table known r (below r has) term in
        sym (lowered_all (has_row must r) (low r) (omega (arith, ints)))))

    pub high_of_certain : total (map high (rows_in must)) ≡ total (map high_share pairs)
    high_of_certain =
        total_highs must
        (sym (over_certain high)
        ∙ over_same may (λ r. cond (has_row must r) (high r) (pos 0)) (λ r. high_share (pair_at table term must r)) (λ r has. sym (raised_certain (has_row must r) (high r) (not_above table known r (below r has) term never))))

  module _ (certain all : ℕ) (least greatest : Option ℤ) (low_sum high_sum : ℤ) (c : certain ≡ count_by (λ b. b) must) (a : all ≡ count_by (λ b. b) may)
      (l : least ≡ (if certain == 0 then answer Min (map low (rows_in may)) else None)) (g : greatest ≡ (if certain == 0 then answer Max (map high (rows_in may)) else None))
      (s : low_sum ≡ total (map low_share pairs)) (t : high_sum ≡ total (map high_share pairs)) where
    abbrev kept : Tally
    kept = record { certain = certain; all = all; least_low = least; greatest_high = greatest; least_certain_high = None; greatest_certain_low = None; low_sum = low_sum; high_sum = high_sum }

    sum_is : kept ≡ tally_of Sum pairs
    sum_is =
        let counted = c ∙ certain_is in
        same_tally _ _ _ _ _ _ _ _ _ _ _ _ counted (a ∙ all_is)
        (l ∙ ap (λ n. if n == 0 then answer Min (map low (rows_in may)) else None) counted ∙ ap (λ xs. if certain_count pairs == 0 then answer Min xs else None) lows_are)
        (g ∙ ap (λ n. if n == 0 then answer Max (map high (rows_in may)) else None) counted ∙ ap (λ xs. if certain_count pairs == 0 then answer Max xs else None) highs_are)
        s t

    pub tally_is : (kind : ItemKind) → IsSumKind kind → kept ≡ tally_of kind pairs
    tally_is Count sum = absurd sum
    tally_is Sum sum = sum_is
    tally_is Min sum = absurd sum
    tally_is Max sum = absurd sum
    tally_is Avg sum = sum_is
