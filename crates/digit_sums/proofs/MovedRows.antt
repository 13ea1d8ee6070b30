-- A row more in a cell before and behind a plane: as it was, surely counting, or gone. And what is kept of the cell behind it.
use Rattle.std.proofs.Common.{◌≡◌, ℕ, ◌+◌, ◌-◌, ◌≤◌, ◌<◌, ◌==◌, pos, negsuc, ℤ, ◌+ℤ◌, ◌≤ℤ◌, Bool, true, false, cond, List, [], ◌∷◌, ◌++◌, length, map, None, inl, inr, refl, ap, sym, ◌∙◌, arith, if◌then◌else◌}
use Rattle.std.specs.Int.{int_max, int_min}
use Rattle.std.proofs.lemmas.Bool.{cases_Bool, eqb-true}
use Rattle.std.proofs.lemmas.Int.{clamps, ints}
use Rattle.query_model.specs.declared.query.ItemKind.TheVariants.{Count, Max, Min, Sum}
use Rattle.query_model.specs.Answers.{answer, total}
use Rattle.query_model.specs.Bounds.{Pair, certain_count, high_share, highs, low_share, lows}
use Rattle.aggregates.specs.SumsOfCells.{FitsCell}
use Rattle.aggregates.specs.declared.tally.Tally.{Tally}
use Rattle.aggregates.specs.Tallies.{tally_of}
use Rattle.aggregates.proofs.Appending.{count-certain, count-more, count-uncertain, length-more, same_tally, total-more}
use Rattle.digit_sums.specs.declared.moves.RowMoves.{RowMoves}
use Rattle.digit_sums.specs.Moves.{AreFewMoves, AreMoved, AreRowsMoved, above, below, no_moves, with_came, with_left, without_ends}

-- ---- numbers

above_few : (z : ℤ) → z ≤ℤ pos 549755813887 → above z ≤ 549755813887
above_few (pos n) most = omega (arith, ints, most)
above_few (negsuc n) most = omega arith

below_few : (z : ℤ) → negsuc 549755813886 ≤ℤ z → below z ≤ 549755813887
below_few (pos n) least = omega arith
below_few (negsuc n) least = omega (arith, ints, least)

pub low_above : (low high : ℤ) → FitsCell low high → above low ≤ 549755813887
low_above low high fits = above_few low (let a = fits.ordered in let b = fits.high_is in omega (arith, ints, a, b))

pub low_below : (low high : ℤ) → FitsCell low high → below low ≤ 549755813887
low_below low high fits = below_few low fits.low_is

pub high_above : (low high : ℤ) → FitsCell low high → above high ≤ 549755813887
high_above low high fits = above_few high fits.high_is

pub high_below : (low high : ℤ) → FitsCell low high → below high ≤ 549755813887
high_below low high fits = below_few high (let a = fits.ordered in let b = fits.low_is in omega (arith, ints, a, b))

-- a number is what it has below 0 and what it has above
min_above : (z : ℤ) → z ≡ int_min z (pos 0) +ℤ pos (above z)
min_above (pos n) = omega (arith, ints, clamps)
min_above (negsuc n) = omega (arith, ints, clamps)

min_below : (z : ℤ) → pos 0 ≡ int_min z (pos 0) +ℤ pos (below z)
min_below (pos n) = omega (arith, ints, clamps)
min_below (negsuc n) = omega (arith, ints, clamps)

max_below : (z : ℤ) → int_max z (pos 0) ≡ z +ℤ pos (below z)
max_below (pos n) = omega (arith, ints, clamps)
max_below (negsuc n) = omega (arith, ints, clamps)

max_above : (z : ℤ) → int_max z (pos 0) ≡ pos (above z)
max_above (pos n) = omega (arith, ints, clamps)
max_above (negsuc n) = omega (arith, ints, clamps)

-- ---- rows

abbrev pub pair : Bool → ℤ → ℤ → Pair
pair certain low high = record { certain = certain; low = low; high = high }

no_rows_moved : AreRowsMoved [] [] no_moves
no_rows_moved = record { rows = refl; certain = refl; once = omega arith; raised = omega arith; lowered = omega arith }

pub none_moved : AreMoved [] [] no_moves
none_moved = record { counts = no_rows_moved; low = refl; high = refl; still = λ _ _. refl }

-- what counts take

module _ (old new : List Pair) (moves : RowMoves) (moved : AreRowsMoved old new moves) where
  -- few rows moved of few
  pub few_moves : length old < 16777216 → AreFewMoves moves
  few_moves few = record { rows = (let once = moved.once in omega (arith, once, few)); raised = moved.raised; lowered = moved.lowered }

  -- a row is as it was
  pub count_stays : (p : Pair) → AreRowsMoved (old ++ p ∷ []) (new ++ p ∷ []) moves
  count_stays p =
      let long = length-more old p in
      let longer = length-more new p in
      let rows = moved.rows in
      let once = moved.once in
      let certain = moved.certain in
      let count_old = count-more old p (cond p.certain 1 0) refl in
      let count_new = count-more new p (cond p.certain 1 0) refl in
      record {
        rows = omega (arith, long, longer, rows);
        certain = omega (arith, count_old, count_new, certain);
        once = omega (arith, long, once);
        raised = moved.raised;
        lowered = moved.lowered;
      }

  module _ (l h low high : ℤ) (fits : FitsCell low high) where
    -- a row now surely counts
    pub count_came : AreRowsMoved (old ++ pair false l h ∷ []) (new ++ pair true l h ∷ []) (with_came moves low high)
    count_came =
        let long = length-more old (pair false l h) in
        let longer = length-more new (pair true l h) in
        let count_old = count-uncertain old (pair false l h) refl in
        let count_new = count-certain new (pair true l h) refl in
        let rows = moved.rows in
        let once = moved.once in
        let certain = moved.certain in
        let raised = moved.raised in
        let lowered = moved.lowered in
        let low_most = low_above low high fits in
        let high_most = high_below low high fits in
        record {
          rows = omega (arith, long, longer, rows);
          certain = omega (arith, count_old, count_new, certain);
          once = omega (arith, long, once);
          raised = omega (arith, raised, low_most);
          lowered = omega (arith, lowered, high_most);
        }

    -- a row does not count now
    pub count_left : AreRowsMoved (old ++ pair false l h ∷ []) new (with_left moves low high)
    count_left =
        let long = length-more old (pair false l h) in
        let count_old = count-uncertain old (pair false l h) refl in
        let rows = moved.rows in
        let once = moved.once in
        let certain = moved.certain in
        let raised = moved.raised in
        let lowered = moved.lowered in
        let low_most = low_below low high fits in
        let high_most = high_above low high fits in
        record {
          rows = omega (arith, long, rows);
          certain = omega (arith, count_old, certain);
          once = omega (arith, long, once);
          raised = omega (arith, raised, low_most);
          lowered = omega (arith, lowered, high_most);
        }

-- what sums take

module _ (old new : List Pair) (moves : RowMoves) (moved : AreMoved old new moves) where
  pub stays_more : (p : Pair) → AreMoved (old ++ p ∷ []) (new ++ p ∷ []) moves
  stays_more p =
      let low = moved.low in
      let low_old = total-more low_share old p in
      let low_new = total-more low_share new p in
      let high = moved.high in
      let high_old = total-more high_share old p in
      let high_new = total-more high_share new p in
      record {
        counts = count_stays old new moves moved.counts p;
        low = omega (arith, ints, low, low_old, low_new);
        high = omega (arith, ints, high, high_old, high_new);
        still = λ none nothing. ap (λ ps. ps ++ p ∷ []) (moved.still none nothing);
      }

  module _ (low high : ℤ) (fits : FitsCell low high) where
    pub came_more : AreMoved (old ++ pair false low high ∷ []) (new ++ pair true low high ∷ []) (with_came moves low high)
    came_more =
        let lows = moved.low in
        let low_old = total-more low_share old (pair false low high) in
        let low_new = total-more low_share new (pair true low high) in
        let highs = moved.high in
        let high_old = total-more high_share old (pair false low high) in
        let high_new = total-more high_share new (pair true low high) in
        let low_part = min_above low in
        let high_part = max_below high in
        record {
          counts = count_came old new moves moved.counts low high low high fits;
          low = omega (arith, ints, lows, low_old, low_new, low_part);
          high = omega (arith, ints, highs, high_old, high_new, high_part);
          still = λ none nothing. absurd (omega (arith, none));
        }

    pub left_more : AreMoved (old ++ pair false low high ∷ []) new (with_left moves low high)
    left_more =
        let lows = moved.low in
        let low_old = total-more low_share old (pair false low high) in
        let highs = moved.high in
        let high_old = total-more high_share old (pair false low high) in
        let low_part = min_below low in
        let high_part = max_above high in
        record {
          counts = count_left old new moves moved.counts low high low high fits;
          low = omega (arith, ints, lows, low_old, low_part);
          high = omega (arith, ints, highs, high_old, high_part);
          still = λ none nothing. absurd (omega (arith, nothing));
        }

-- ---- what is kept

-- a sum keeps no end where a row surely counts or none is left
low_gone : (ps : List Pair) → (certain_count ps ≡ 0 → length ps ≡ 0) → None ≡ (if certain_count ps == 0 then answer Min (lows ps) else None)
low_gone [] none = refl
low_gone (p ∷ ps) none =
    elim (cases_Bool (certain_count (p ∷ ps) == 0)) [
      | inl t ↦ (let all : length (p ∷ ps) ≡ 0 = none (eqb-true (certain_count (p ∷ ps)) 0 t) in absurd (omega (arith, all)))
      | inr f ↦ sym (ap (λ b. if b then answer Min (lows (p ∷ ps)) else None) f)
    ]

high_gone : (ps : List Pair) → (certain_count ps ≡ 0 → length ps ≡ 0) → None ≡ (if certain_count ps == 0 then answer Max (highs ps) else None)
high_gone [] none = refl
high_gone (p ∷ ps) none =
    elim (cases_Bool (certain_count (p ∷ ps) == 0)) [
      | inl t ↦ (let all : length (p ∷ ps) ≡ 0 = none (eqb-true (certain_count (p ∷ ps)) 0 t) in absurd (omega (arith, all)))
      | inr f ↦ sym (ap (λ b. if b then answer Max (highs (p ∷ ps)) else None) f)
    ]

module _ (before now : List Pair) (moves : RowMoves) (moved : AreRowsMoved before now moves) (old : Tally) (certain all : ℕ) (c : certain ≡ old.certain + moves.came) (a : all ≡ old.all - moves.left) where
  counts_certain : old.certain ≡ certain_count before → certain ≡ certain_count now
  counts_certain was = (let surely = moved.certain in omega (arith, c, was, surely))

  counts_all : old.all ≡ length before → all ≡ length now
  counts_all was = (let every = moved.rows in omega (arith, a, was, every))

  -- a count
  pub count_moved : old ≡ tally_of Count before → without_ends certain all (pos 0) (pos 0) ≡ tally_of Count now
  count_moved was =
      sym (same_tally _ _ _ _ _ _ _ _ (tally_of Count now)
      (counts_certain (ap (λ (t : Tally). t.certain) was)) (counts_all (ap (λ (t : Tally). t.all) was)) refl refl refl refl refl refl)

  -- a sum
  pub sum_moved : AreMoved before now moves → (low high : ℤ) → old ≡ tally_of Sum before → (certain ≡ 0 → all ≡ 0) → low ≡ old.low_sum +ℤ pos moves.raised → old.high_sum ≡ high +ℤ pos moves.lowered →
      without_ends certain all low high ≡ tally_of Sum now
  sum_moved sums low high was none l h =
      let surely = counts_certain (ap (λ (t : Tally). t.certain) was) in
      let every = counts_all (ap (λ (t : Tally). t.all) was) in
      let gone : certain_count now ≡ 0 → length now ≡ 0 = λ e. sym every ∙ none (surely ∙ e) in
      let low_was : old.low_sum ≡ total (map low_share before) = ap (λ (t : Tally). t.low_sum) was in
      let high_was : old.high_sum ≡ total (map high_share before) = ap (λ (t : Tally). t.high_sum) was in
      let low_now = sums.low in
      let high_now = sums.high in
      sym (same_tally _ _ _ _ _ _ _ _ (tally_of Sum now)
      surely every (low_gone now gone) (high_gone now gone) refl refl (omega (arith, ints, l, low_was, low_now)) (omega (arith, ints, h, high_was, high_now)))
