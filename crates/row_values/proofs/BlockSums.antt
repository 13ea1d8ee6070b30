-- What the rows of a block add to a sum, one row after another.
use Rattle.std.proofs.Common.{◌≡◌, ℕ, ◌+◌, ◌*◌, ◌≤◌, ℤ, pos, negsuc, ◌+ℤ◌, ◌-ℤ◌, ◌≤ℤ◌, Bool, true, false, ◌&&◌, cond, List, [], ◌∷◌, ◌++◌, length, map, Option, Some, None, refl, ap, sym, ◌∙◌, subst, arith, append-nil, if◌then◌else◌, FitsSigned, ◌<◌, ◌==◌, filter, not, length-append, IsTrue, to_z, of_z}
use mir.Val.{bool_byte}
use Rattle.std.specs.Int.{int_max, int_min, w64, w128}
use Rattle.std.specs.Int.Bits.{bit_and}
use Rattle.std.proofs.lemmas.Bool.{eqb-true}
use Rattle.std.proofs.lemmas.List.{append_assoc, map-append}
use Rattle.std.proofs.lemmas.List.Elements.{filter-append}
use Rattle.std.proofs.lemmas.Int.{ints, clamps, to_z-of_z}
use Rattle.std.specs.List.{filter_map}
use Rattle.aggregates.specs.declared.tally.Tally.{Tally}
use Rattle.aggregates.specs.Tallies.{tally_of}
use Rattle.aggregates.proofs.Appending.{count-certain, count-uncertain, if_none, length-more, map-more, same_tally, total-more}
use Rattle.aggregates.proofs.BlockAdding.{parts_of}
use Rattle.interval_calc.specs.Intervals.{Interval}
use Rattle.known_column.specs.Columns.{count_in_block}
use Rattle.known_column.specs.KnownTables.{KnownTable}
use Rattle.plane_kernels.specs.Rows.{digit_at}
use Rattle.query_model.specs.declared.query.ItemKind.TheVariants.{Max, Min, Sum}
use Rattle.query_model.specs.Answers.{answer, total}
use Rattle.query_model.specs.Bounds.{Pair, certain_count, high_share, highs, low_share, lows}
use Rattle.query_model.specs.Knowledge.{ranges_of}
use Rattle.query_model.specs.Queries.{Term}
use Rattle.query_model.specs.Truths.{may_be_null, may_be_number, null_of, span_of}
use Rattle.query_model.specs.Validity.{declared_ranges}
use Rattle.row_values.specs.declared.shares.Shares.{Shares}
use Rattle.row_values.specs.declared.short.ShortInterval.{ShortInterval}
use Rattle.row_values.specs.BlockSums.{AreShares, AreSmall, AreWithin, Give, IsSmall, given, pair_if, row_pair}
use Rattle.row_values.specs.BlockValues.{ArePossible, AreSure}
use Rattle.row_values.specs.ShortSpans.{AreShortSpans, interval_of}
use Rattle.row_values.proofs.NullRows.{digit-and}
use Rattle.row_values.proofs.ShortNumbers.{again, between_fits}

-- ---- what a row adds

abbrev pub low_part : Bool → Bool → ℤ → ℤ
low_part may must low = if may then (if must then low else int_min low (pos 0)) else pos 0

abbrev pub high_part : Bool → Bool → ℤ → ℤ
high_part may must high = if may then (if must then high else int_max high (pos 0)) else pos 0

-- it is small where the row's end is
pub low_part_small : (may must : Bool) (n : ℤ) → negsuc 144115188075855870 ≤ℤ n → n ≤ℤ pos 144115188075855871 → (negsuc 144115188075855870 ≤ℤ low_part may must n) × (low_part may must n ≤ℤ pos 144115188075855871)
low_part_small true true n h k = (h, k)
low_part_small true false n h k = (omega (arith, ints, clamps), omega (arith, ints, clamps))
low_part_small false must n h k = (omega (arith, ints), omega (arith, ints))

pub high_part_small : (may must : Bool) (n : ℤ) → negsuc 144115188075855870 ≤ℤ n → n ≤ℤ pos 144115188075855871 → (negsuc 144115188075855870 ≤ℤ high_part may must n) × (high_part may must n ≤ℤ pos 144115188075855871)
high_part_small true true n h k = (h, k)
high_part_small true false n h k = (omega (arith, ints, clamps), omega (arith, ints, clamps))
high_part_small false must n h k = (omega (arith, ints), omega (arith, ints))

-- ---- sums of few small numbers

fits_64 : (z : ℤ) → negsuc 9223372036854775807 ≤ℤ z → z ≤ℤ pos 9223372036854775807 → FitsSigned w64 z
fits_64 z low high = between_fits (negsuc 9223372036854775807) z (pos 9223372036854775807) low high (record { sfits = omega arith }) (record { sfits = omega arith })

pub again_small : (z : ℤ) → negsuc 144115188075855870 ≤ℤ z → z ≤ℤ pos 144115188075855871 → again z ≡ z
again_small z low high = to_z-of_z w64 z (fits_64 z (omega (arith, ints, low)) (omega (arith, ints, high)))

-- a sum fits, and is what stands in the clauses of calls
pub record IsAddedShort (a b part : ℤ) : Type 0 where
  pub fits : FitsSigned w64 (again a +ℤ again b)
  pub is : again (again a +ℤ again b) ≡ a +ℤ part

pub added_short : (rows : ℕ) (a b part : ℤ) → rows < 64 → (pos 0 -ℤ pos (144115188075855871 * rows)) ≤ℤ a → a ≤ℤ pos (144115188075855871 * rows) → b ≡ part →
    (negsuc 144115188075855870 ≤ℤ part) × (part ≤ℤ pos 144115188075855871) → IsAddedShort a b part
added_short rows a b part few low high is small =
    let below = small.0 in
    let above = small.1 in
    let first : again a ≡ a = to_z-of_z w64 a (fits_64 a (omega (arith, ints, low, few)) (omega (arith, ints, high, few))) in
    let second : again b ≡ part = ap again is ∙ again_small part below above in
    let both : again a +ℤ again b ≡ a +ℤ part = ap (λ z. z +ℤ again b) first ∙ ap (λ z. a +ℤ z) second in
    let fits : FitsSigned w64 (a +ℤ part) = fits_64 (a +ℤ part) (omega (arith, ints, low, below, few)) (omega (arith, ints, high, above, few)) in
    record { fits = subst (FitsSigned w64) (sym both) fits; is = ap again both ∙ to_z-of_z w64 (a +ℤ part) fits }

-- ---- one row more

-- what is added with a row
pub record IsWithRow (old new : Shares) (may must : Bool) (i : Interval) : Type 0 where
  pub all : new.all ≡ old.all + cond may 1 0
  pub certain : new.certain ≡ old.certain + cond (may && must) 1 0
  pub low : new.low ≡ old.low +ℤ low_part may must i.low
  pub high : new.high ≡ old.high +ℤ high_part may must i.high

module _ (give : ℕ → Option Pair) (row : ℕ) where
  row_counts : (p : Pair) → give row ≡ Some p → given give (row + 1) ≡ given give row ++ p ∷ []
  row_counts p is = parts_of give row 1 ∙ ap (λ ps. given give row ++ ps) (one p is)
    where
      one : (p : Pair) → give row ≡ Some p → filter_map give (row ∷ []) ≡ p ∷ []
      one p is = rw is refl

  row_passes : give row ≡ None → given give (row + 1) ≡ given give row
  row_passes is = parts_of give row 1 ∙ ap (λ ps. given give row ++ ps) (none is) ∙ append-nil (given give row)
    where
      none : give row ≡ None → filter_map give (row ∷ []) ≡ []
      none is = rw is refl

  pub with_row : (may must : Bool) (i : Interval) (old new : Shares) → give row ≡ pair_if may must i → IsWithRow old new may must i → AreShares (given give row) old → AreShares (given give (row + 1)) new
  with_row false must i old new is with are =
      subst (λ ps. AreShares ps new) (sym (row_passes is)) (record {
        all = (let a = with.all in let b = are.all in omega (arith, a, b));
        certain = (let a = with.certain in let b = are.certain in omega (arith, a, b));
        low = (let a = with.low in let b = are.low in omega (arith, ints, a, b));
        high = (let a = with.high in let b = are.high in omega (arith, ints, a, b));
      })
  with_row true true i old new is with are =
      let ps = given give row in
      let p : Pair = record { certain = true; low = i.low; high = i.high } in
      subst (λ ps. AreShares ps new) (sym (row_counts p is)) (record {
        all = (let a = with.all in let b = are.all in let more = length-more ps p in omega (arith, a, b, more));
        certain = (let a = with.certain in let b = are.certain in let more = count-certain ps p refl in omega (arith, a, b, more));
        low = (let a = with.low in let b = are.low in let more = total-more low_share ps p in omega (arith, ints, a, b, more));
        high = (let a = with.high in let b = are.high in let more = total-more high_share ps p in omega (arith, ints, a, b, more));
      })
  with_row true false i old new is with are =
      let ps = given give row in
      let p : Pair = record { certain = false; low = i.low; high = i.high } in
      subst (λ ps. AreShares ps new) (sym (row_counts p is)) (record {
        all = (let a = with.all in let b = are.all in let more = length-more ps p in omega (arith, a, b, more));
        certain = (let a = with.certain in let b = are.certain in let more = count-uncertain ps p refl in omega (arith, a, b, more));
        low = (let a = with.low in let b = are.low in let more = total-more low_share ps p in omega (arith, ints, a, b, more));
        high = (let a = with.high in let b = are.high in let more = total-more high_share ps p in omega (arith, ints, a, b, more));
      })

-- what is kept of so many rows that surely count
abbrev pub sure_rows : ℕ → ℤ → ℤ → Shares
sure_rows count low high = record { all = count; certain = count; low = low; high = high }

-- a bit as a number
pub one_of : (b : Bool) → bool_byte b ≡ cond b 1 0
one_of true = refl
one_of false = refl

most_one : (b : Bool) → cond b 1 0 ≤ 1
most_one true = omega arith
most_one false = omega arith

pub and_true : (b : Bool) → (b && true) ≡ b
and_true true = refl
and_true false = refl

-- a row that surely counts where it may
pub sure_pair : (may must : Bool) (i : Interval) → (may && must) ≡ may → pair_if may must i ≡ pair_if may true i
sure_pair true must i h = ap (λ b. pair_if true b i) h
sure_pair false must i h = refl

-- small rows add no more than their number allows
pub within_more : (rows : ℕ) (may must : Bool) (i : Interval) (old new : Shares) → i.low ≤ℤ i.high → IsSmall i → IsWithRow old new may must i → AreWithin rows old → AreWithin (rows + 1) new
within_more rows may must i old new ordered small with within =
    let low = low_part_small may must i.low small.low (let h = small.high in omega (arith, ints, ordered, h)) in
    let high = high_part_small may must i.high (let h = small.low in omega (arith, ints, ordered, h)) small.high in
    let below = low.0 in
    let above = low.1 in
    let high_below = high.0 in
    let high_above = high.1 in
    record {
      all = (let a = with.all in let b = within.all in let most = most_one may in omega (arith, a, b, most));
      certain = (let a = with.certain in let b = within.certain in let most = most_one (may && must) in omega (arith, a, b, most));
      low = (let a = with.low in let b = within.low in omega (arith, ints, a, b, below));
      not_low = (let a = with.low in let b = within.not_low in omega (arith, ints, a, b, above));
      high = (let a = with.high in let b = within.high in omega (arith, ints, a, b, high_below));
      not_high = (let a = with.high in let b = within.not_high in omega (arith, ints, a, b, high_above));
    }

-- ---- outermost ends

module _ (give : ℕ → Option Pair) (row : ℕ) where
  pub low_counts : (must : Bool) (i : Interval) (may : Bool) (xs : List ℤ) → may ≡ true → give row ≡ pair_if may must i → (xs ++ lows (given give row)) ++ i.low ∷ [] ≡ xs ++ lows (given give (row + 1))
  low_counts must i may xs set is =
      let p : Pair = record { certain = must; low = i.low; high = i.high } in
      let there : give row ≡ Some p = is ∙ ap (λ b. pair_if b must i) set in
      append_assoc xs (lows (given give row)) (i.low ∷ []) ∙ ap (λ ls. xs ++ ls) (sym (map-more (λ (q : Pair). q.low) (given give row) p) ∙ ap lows (sym (row_counts give row p there)))

  pub high_counts : (must : Bool) (i : Interval) (may : Bool) (xs : List ℤ) → may ≡ true → give row ≡ pair_if may must i → (xs ++ highs (given give row)) ++ i.high ∷ [] ≡ xs ++ highs (given give (row + 1))
  high_counts must i may xs set is =
      let p : Pair = record { certain = must; low = i.low; high = i.high } in
      let there : give row ≡ Some p = is ∙ ap (λ b. pair_if b must i) set in
      append_assoc xs (highs (given give row)) (i.high ∷ []) ∙ ap (λ ls. xs ++ ls) (sym (map-more (λ (q : Pair). q.high) (given give row) p) ∙ ap highs (sym (row_counts give row p there)))

  pub passed_by : (must : Bool) (i : Interval) (may : Bool) → may ≡ false → give row ≡ pair_if may must i → given give row ≡ given give (row + 1)
  passed_by must i may unset is = sym (row_passes give row (is ∙ ap (λ b. pair_if b must i) unset))

-- ---- two lists

total-both : (f : Pair → ℤ) (ps qs : List Pair) → total (map f (ps ++ qs)) ≡ total (map f ps) +ℤ total (map f qs)
total-both f [] qs = omega (arith, ints)
total-both f (p ∷ ps) qs = (let rest = total-both f ps qs in omega (arith, ints, rest))

certain-both : (ps qs : List Pair) → certain_count (ps ++ qs) ≡ certain_count ps + certain_count qs
certain-both ps qs = ap length (filter-append (λ (q : Pair). q.certain) ps qs) ∙ length-append (filter (λ (q : Pair). q.certain) ps) (filter (λ (q : Pair). q.certain) qs)

-- what is kept of two lists, where it is kept of the first and told of the second
pub tally_both : (ps qs : List Pair) (old : Tally) (shares : Shares) (certain all : ℕ) (least greatest : Option ℤ) (low high : ℤ) (none : Bool) → old ≡ tally_of Sum ps → AreShares qs shares →
    certain ≡ old.certain + shares.certain → all ≡ old.all + shares.all → low ≡ old.low_sum +ℤ shares.low → high ≡ old.high_sum +ℤ shares.high → none ≡ (certain == 0) →
    ((none ≡ true → old.least_low ≡ answer Min (lows ps)) → least ≡ (if none then answer Min (lows ps ++ lows qs) else None)) →
    ((none ≡ true → old.greatest_high ≡ answer Max (highs ps)) → greatest ≡ (if none then answer Max (highs ps ++ highs qs) else None)) →
    record {
      certain = certain;
      all = all;
      least_low = least;
      greatest_high = greatest;
      least_certain_high = old.least_certain_high;
      greatest_certain_low = old.greatest_certain_low;
      low_sum = low;
      high_sum = high;
    } ≡ tally_of Sum (ps ++ qs)
tally_both ps qs old shares certain all least greatest low high none is are certain_is all_is low_is high_is none_is least_is greatest_is =
    let before : old.certain ≡ certain_count ps = ap (λ (t : Tally). t.certain) is in
    let count : certain ≡ certain_count (ps ++ qs) = (let h = are.certain in let both = certain-both ps qs in omega (arith, certain_is, before, h, both)) in
    let test : none ≡ (certain_count (ps ++ qs) == 0) = none_is ∙ ap (λ k. k == 0) count in
    let nothing : none ≡ true → certain_count ps ≡ 0 = λ set. (let zero = eqb-true certain 0 (sym none_is ∙ set) in omega (arith, zero, certain_is, before)) in
    sym (same_tally certain all least greatest old.least_certain_high old.greatest_certain_low low high (tally_of Sum (ps ++ qs))
    count
    (let was = ap (λ (t : Tally). t.all) is in let h = are.all in let both = length-append ps qs in omega (arith, all_is, was, h, both))
    (least_is (λ set. ap (λ (t : Tally). t.least_low) is ∙ if_none (certain_count ps) (answer Min (lows ps)) (nothing set)) ∙ ap (λ b. if b then answer Min (lows ps ++ lows qs) else None) test
    ∙ ap (λ ls. if certain_count (ps ++ qs) == 0 then answer Min ls else None) (sym (map-append (λ (q : Pair). q.low) ps qs)))
    (greatest_is (λ set. ap (λ (t : Tally). t.greatest_high) is ∙ if_none (certain_count ps) (answer Max (highs ps)) (nothing set)) ∙ ap (λ b. if b then answer Max (highs ps ++ highs qs) else None) test
    ∙ ap (λ ls. if certain_count (ps ++ qs) == 0 then answer Max ls else None) (sym (map-append (λ (q : Pair). q.high) ps qs)))
    (ap (λ (t : Tally). t.least_certain_high) is)
    (ap (λ (t : Tally). t.greatest_certain_low) is)
    (let was = ap (λ (t : Tally). t.low_sum) is in let h = are.low in let both = total-both low_share ps qs in omega (arith, ints, low_is, was, h, both))
    (let was = ap (λ (t : Tally). t.high_sum) is in let h = are.high in let both = total-both high_share ps qs in omega (arith, ints, high_is, was, h, both)))

-- ---- a block of an expression

same_pair : (may number must : Bool) (i j : Interval) → (IsTrue number → j ≡ i) → pair_if (may && number) must i ≡ pair_if (may && number) must j
same_pair false number must i j h = refl
same_pair true false must i j h = refl
same_pair true true must i j h = ap (pair_if true must) (sym (h refl))

module _ (term : Term) (table : KnownTable) (block count : ℕ) (spans : List ShortInterval) (rows : count ≡ count_in_block block table.frame.rows) (are : AreShortSpans term table block spans) where
  -- the words and spans of a block say what its rows give
  pub block_gives : (may must possible sure : ℕ) → ArePossible term table block possible → AreSure term table block sure → Give (row_pair term table block may must) (bit_and may possible) (bit_and must sure) count spans
  block_gives may must possible sure possible_is sure_is r span below at =
      let within : r < count_in_block block table.frame.rows = omega (arith, rows, below) in
      let ranges = ranges_of table.frame table.known (64 * block + r) in
      let n = null_of term ranges in
      same_pair (digit_at r may) (may_be_number n) (digit_at r must && not (may_be_null n)) (span_of term ranges) (interval_of span) ((are r span within at).exact)
      ∙ ap (λ b. pair_if b (digit_at r must && not (may_be_null n)) (interval_of span)) (ap (λ b. digit_at r may && b) (sym (possible_is r within)) ∙ sym (digit-and r may possible))
      ∙ ap (λ b. pair_if (digit_at r (bit_and may possible)) b (interval_of span)) (ap (λ b. digit_at r must && b) (sym (sure_is r within)) ∙ sym (digit-and r must sure))

  pub block_small : IsSmall (span_of term (declared_ranges table.frame)) → AreSmall count spans
  block_small small r span below at =
      let inside = (are r span (omega (arith, rows, below)) at).inside in
      let a = inside.low in
      let b = inside.high in
      let l = small.low in
      let h = small.high in
      record { low = omega (arith, ints, a, l); high = omega (arith, ints, b, h) }

fits_128 : (z : ℤ) → negsuc 170141183460469231731687303715884105727 ≤ℤ z → z ≤ℤ pos 170141183460469231731687303715884105727 → FitsSigned w128 z
fits_128 (pos n) low high = record { sfits = omega (arith, ints, high) }
fits_128 (negsuc n) low high = record { sfits = omega (arith, ints, low) }

abbrev again_128 : ℤ → ℤ
again_128 z = to_z w128 (of_z w128 z)

-- a sum of 128 bits is what stands in the clauses of calls
pub added_long : (blocks : ℕ) (a b part : ℤ) → blocks < 262144 → (pos 0 -ℤ pos (9223372036854775808 * blocks)) ≤ℤ a → a ≤ℤ pos (9223372036854775808 * blocks) → b ≡ part →
    negsuc 9223372036854775807 ≤ℤ part → part ≤ℤ pos 9223372036854775807 → again_128 (again_128 a +ℤ again_128 b) ≡ a +ℤ part
added_long blocks a b part few low high is below above =
    let first : again_128 a ≡ a = to_z-of_z w128 a (fits_128 a (omega (arith, ints, low, few)) (omega (arith, ints, high, few))) in
    let second : again_128 b ≡ part = ap again_128 is ∙ to_z-of_z w128 part (fits_128 part (omega (arith, ints, below)) (omega (arith, ints, above))) in
    ap again_128 (ap (λ z. z +ℤ again_128 b) first ∙ ap (λ z. a +ℤ z) second) ∙ to_z-of_z w128 (a +ℤ part) (fits_128 (a +ℤ part) (omega (arith, ints, low, below, few)) (omega (arith, ints, high, above, few)))
