-- A row more in each cell, where its tally is kept compact.
use Rattle.std.proofs.Common.{◌≡◌, ℕ, ◌+◌, ◌<◌, ◌≤◌, Bool, true, false, not, ◌&&◌, Some, None, IsTrue, refl, sym, ap, subst, ◌∙◌, arith, to_z, of_z, if◌then◌else◌}
use Rattle.std.specs.Int.{w64}
use Rattle.std.proofs.lemmas.Int.{ints}
use Rattle.std.specs.declared.option.Option.{Option}
use Rattle.interval_calc.specs.Intervals.{Interval}
use Rattle.query_model.specs.declared.bounds.Nullity.{Nullity}
use Rattle.query_model.specs.declared.bounds.Nullity.TheVariants.{Never, Possibly, Always}
use Rattle.query_model.specs.declared.bounds.Truth.{Truth}
use Rattle.query_model.specs.declared.bounds.Truth.TheVariants.{False, Unknown, True}
use Rattle.query_model.specs.Queries.{Aggregate, Query}
use Rattle.query_model.specs.Answers.{groups_of}
use Rattle.query_model.specs.Bounds.{Pair, pair_unless_false}
use Rattle.query_model.specs.Groups.{cell_of, holds_one_key, pairs_in_cell_below}
use Rattle.query_model.specs.Knowledge.{ranges_of}
use Rattle.query_model.specs.Laws.{PairsAreFew}
use Rattle.query_model.specs.Truths.{IsInside, and_of, may_be_null, may_be_number, null_of, span_of, truth_of, truth_of_number}
use Rattle.kleene_filter.specs.Filters.{is_certain, is_possible}
use Rattle.known_column.specs.KnownTables.{KnownTable}
use Rattle.aggregates.specs.Tallies.{tally_of}
use Rattle.aggregates.specs.Runnings.{IsAdded, IsBlank, IsCopied, MayCount, Tallies}
use Rattle.aggregates.specs.SumsOfCells.{FitsCell}
use Rattle.row_values.specs.declared.short.ShortInterval.{ShortInterval}
use Rattle.row_values.specs.ShortSpans.{interval_of}
use Rattle.round_engine.specs.CellAnswers.{HasRoom, StandBelow, StandForCells, most_cells, pair_in_own_cell}
use Rattle.round_engine.specs.Cells.{cells_in}
use Rattle.round_engine.specs.Engines.{stage_of}
use Rattle.round_engine.specs.Stages.{Stage}
use Rattle.round_engine.proofs.CellPairs.{stand_as_before, stand_more}

-- ---- a row's pair

told_if : (t : Truth) (one : Bool) (n : Nullity) (j i : Interval) → (IsTrue (may_be_number n) → j ≡ i) →
    (if is_possible t && may_be_number n then Some (record { certain = (is_certain t && not (may_be_null n)) && one; low = j.low; high = j.high }) else None)
    ≡ pair_unless_false (and_of (and_of t (if one then True else Unknown)) (truth_of_number n)) i
told_if False one n j i lies = refl
told_if Unknown true Never j i lies = ap (pair_unless_false Unknown) (lies refl)
told_if Unknown true Possibly j i lies = ap (pair_unless_false Unknown) (lies refl)
told_if Unknown true Always j i lies = refl
told_if Unknown false Never j i lies = ap (pair_unless_false Unknown) (lies refl)
told_if Unknown false Possibly j i lies = ap (pair_unless_false Unknown) (lies refl)
told_if Unknown false Always j i lies = refl
told_if True true Never j i lies = ap (pair_unless_false True) (lies refl)
told_if True true Possibly j i lies = ap (pair_unless_false Unknown) (lies refl)
told_if True true Always j i lies = refl
told_if True false Never j i lies = ap (pair_unless_false Unknown) (lies refl)
told_if True false Possibly j i lies = ap (pair_unless_false Unknown) (lies refl)
told_if True false Always j i lies = refl

-- the pair that a row is told to give, if it may count
abbrev pub pair_told : Bool → Bool → Interval → Option Pair
pair_told told certain j = if told then Some (record { certain = certain; low = j.low; high = j.high }) else None

module _ (query : Query) (item : Aggregate) (columns : KnownTable) (row : ℕ) where
  -- by what is told of the condition, of the value and of the cell's keys
  pub own_told : (told certain single : Bool) (j : Interval) → told ≡ (is_possible (truth_of query.pred (ranges_of columns.frame columns.known row)) && may_be_number (null_of item.arg (ranges_of columns.frame columns.known row))) →
      certain ≡ (is_certain (truth_of query.pred (ranges_of columns.frame columns.known row)) && not (may_be_null (null_of item.arg (ranges_of columns.frame columns.known row)))) →
      single ≡ holds_one_key (groups_of query.shape) (ranges_of columns.frame columns.known row) →
      (IsTrue (may_be_number (null_of item.arg (ranges_of columns.frame columns.known row))) → j ≡ span_of item.arg (ranges_of columns.frame columns.known row)) →
      pair_told told (certain && single) j ≡ pair_in_own_cell (stage_of query columns) item row
  own_told told certain single j may must one lies =
      let ranges = ranges_of columns.frame columns.known row in
      let t = truth_of query.pred ranges in
      let n = null_of item.arg ranges in
      ap (λ b. pair_told b (certain && single) j) may
      ∙ ap (λ b. pair_told (is_possible t && may_be_number n) (b && single) j) must
      ∙ ap (λ b. pair_told (is_possible t && may_be_number n) ((is_certain t && not (may_be_null n)) && b) j) one
      ∙ told_if t (holds_one_key (groups_of query.shape) ranges) n j (span_of item.arg ranges) lies

  -- where the argument is never null the condition alone tells it
  pub own_counted : (told certain single : Bool) → null_of item.arg (ranges_of columns.frame columns.known row) ≡ Never → told ≡ is_possible (truth_of query.pred (ranges_of columns.frame columns.known row)) →
      certain ≡ is_certain (truth_of query.pred (ranges_of columns.frame columns.known row)) → single ≡ holds_one_key (groups_of query.shape) (ranges_of columns.frame columns.known row) →
      pair_told told (certain && single) (span_of item.arg (ranges_of columns.frame columns.known row)) ≡ pair_in_own_cell (stage_of query columns) item row
  own_counted told certain single never may must one =
      let ranges = ranges_of columns.frame columns.known row in
      let t = truth_of query.pred ranges in
      own_told told certain single (span_of item.arg ranges)
      (may ∙ and_true (is_possible t) ∙ ap (λ n. is_possible t && may_be_number n) (sym never))
      (must ∙ and_true (is_certain t) ∙ ap (λ n. is_certain t && not (may_be_null n)) (sym never)) one (λ some. refl)
    where
      and_true : (b : Bool) → b ≡ (b && true)
      and_true true = refl
      and_true false = refl

-- ---- adding a row

pub told_more : (stage : Stage) (item : Aggregate) (row cell : ℕ) → cell ≡ cell_of stage.known (groups_of stage.query.shape) row → (old new : Tallies) (told certain : Bool) (j : Interval) → StandBelow stage item row old →
    (IsTrue told → IsAdded old new cell (record { certain = certain; low = j.low; high = j.high })) → (told ≡ false → new ≡ old) → pair_told told certain j ≡ pair_in_own_cell stage item row →
    StandBelow stage item (row + 1) new
told_more stage item row cell is old new true certain j stand added passed own = stand_more stage item row cell is old new (record { certain = certain; low = j.low; high = j.high }) stand (added refl) (sym own)
told_more stage item row cell is old new false certain j stand added passed own = subst (StandBelow stage item (row + 1)) (sym (passed refl)) (stand_as_before stage item row old stand (sym own))

-- no cell is full
pub may_count : PairsAreFew → (stage : Stage) (item : Aggregate) (row cell : ℕ) (running : Tallies) → row < stage.frame.rows → stage.frame.rows ≤ 16777216 → cell < cells_in stage → StandBelow stage item row running → MayCount running cell
may_count few stage item row cell running within small counted stand = record {
  pairs = pairs_in_cell_below stage.query item cell stage.frame stage.known row;
  stands = stand.stands cell counted;
  few = (let below = (few stage.query item stage.frame stage.known row).in_cell cell in omega (arith, below, within, small));
}

-- ---- all rows

-- cells without a row stand for the rows below the first
pub blank_stand : (stage : Stage) (item : Aggregate) (room cells : ℕ) (running : Tallies) → IsBlank running item.kind room cells → room ≡ most_cells stage → cells ≡ cells_in stage → StandBelow stage item 0 running
blank_stand stage item room cells running blank most all = record {
  has_room = record { kind = blank.kind_is; room = blank.room_is ∙ most };
  cells = blank.count ∙ all;
  stands = λ cell counted. blank.blank cell (subst (λ n. cell < n) (sym all) counted);
}

-- what is kept is handed over
pub copied_stand : (stage : Stage) (item : Aggregate) (old new others : Tallies) → HasRoom stage item old → IsCopied old new others → StandForCells stage item others → StandForCells stage item new
copied_stand stage item old new others room copied stand = record {
  has_room = record { kind = copied.kind ∙ room.kind; room = copied.room ∙ room.room };
  cells = copied.count ∙ stand.cells;
  stands = λ cell counted.
      (let there = stand.stands cell counted in
      let kinds : new.kind ≡ others.kind = copied.kind ∙ room.kind ∙ sym stand.has_room.kind in
      record {
        kept = copied.each cell (subst (λ n. cell < n) (sym stand.cells) counted) ∙ there.kept ∙ ap (λ k. Some (tally_of k (pairs_in_cell_below stage.query item cell stage.frame stage.known stage.frame.rows))) (sym kinds);
        ordered = there.ordered;
      });
}

-- ---- numbers of 64 bits

-- a span inside small ones is small
pub short_fits : (declared : Interval) (span : ShortInterval) → IsInside (interval_of span) declared → FitsCell declared.low declared.high → FitsCell span.lo span.hi
short_fits declared span inside fits =
    let a = inside.low in
    let b = inside.high in
    let l = fits.low_is in
    let h = fits.high_is in
    record { low_is = omega (arith, ints, a, l); ordered = span.ordered; high_is = omega (arith, ints, b, h) }

-- and stands so in the clauses of calls
pub low_again : (span : ShortInterval) → FitsCell span.lo span.hi → to_z w64 (of_z w64 span.lo) ≡ span.lo
low_again span fits = (let a = fits.low_is in let b = fits.ordered in let d = fits.high_is in omega (arith, ints, a, b, d))

pub high_again : (span : ShortInterval) → FitsCell span.lo span.hi → to_z w64 (of_z w64 span.hi) ≡ span.hi
high_again span fits = (let a = fits.low_is in let b = fits.ordered in let d = fits.high_is in omega (arith, ints, a, b, d))
