-- The pair of a row in the cell that it is in, by what a filter says of the row; and the pairs of cells, row by row.
use Rattle.std.proofs.Common.{append-nil, ◌≡◌, ◌≢◌, ℕ, zero, suc, ◌+◌, ◌-◌, ◌*◌, ◌<◌, ◌≤◌, ◌==◌, min, pos, IsTrue, get_or, Bool, true, false, not, ◌&&◌, List, [], ◌∷◌, ◌++◌, length, map, take, drop, slice_get, Some, None, inl, inr, refl, sym, ap, subst, ◌∙◌, arith, if◌then◌else◌}
use Rattle.std.specs.List.{filter_map}
use Rattle.std.specs.declared.option.Option.{Option}
use Rattle.std.proofs.lemmas.Bool.{cases_eq, eq-eqb, eqb-true, false≢true}
use Rattle.interval_calc.specs.Intervals.{Interval, interval_of}
use Rattle.interval_calc.specs.declared.Interval as code
use Rattle.query_model.specs.declared.bounds.Nullity.{Nullity}
use Rattle.query_model.specs.declared.bounds.Nullity.TheVariants.{Never, Possibly, Always}
use Rattle.query_model.specs.declared.bounds.Truth.{Truth}
use Rattle.query_model.specs.declared.bounds.Truth.TheVariants.{False, Unknown, True}
use Rattle.query_model.specs.Queries.{Aggregate, Query}
use Rattle.query_model.specs.Answers.{groups_of}
use Rattle.query_model.specs.Bounds.{Pair, pair_by, pair_unless_false}
use Rattle.query_model.specs.Groups.{cell_of, holds_one_key, pair_in_cell, pairs_in_cell_below, truth_in_cell}
use Rattle.query_model.specs.Knowledge.{IsKnowledge, ranges_of}
use Rattle.query_model.specs.Laws.{PairsAreFew, SumsFit, SumsOfItemsFit}
use Rattle.query_model.specs.Truths.{Ranges, and_of, may_be_null, may_be_number, null_of, span_of, truth_of, truth_of_number}
use Rattle.query_model.specs.Validity.{FitsItem, IsSumKind}
use Rattle.kleene_filter.specs.Filters.{is_certain, is_possible, truths_under}
use Rattle.kleene_filter.proofs.WordBits.{both_bits, digit-zero}
use Rattle.known_column.specs.Columns.{count_in_block}
use Rattle.known_column.specs.KnownTables.{KnownTable}
use Rattle.plane_kernels.specs.Rows.{bits_of, digit_at}
use Rattle.row_values.specs.declared.block_values.BlockValues.{BlockValues}
use Rattle.row_values.specs.BlockValues.{AreValues}
use Rattle.std.specs.Int.Bits.{bit_and}
use Rattle.std.proofs.lemmas.Option.{slice_get-get_or}
use lib.Signed.{≤ℤ_refl}
use Rattle.aggregates.specs.Runnings.{IsAdded, MayAdd, StandsFor, Tallies}
use Rattle.aggregates.specs.Tallies.{pair_with, tally_of}
use Rattle.round_engine.specs.CellAnswers.{StandBelow, pair_in_own_cell}
use Rattle.round_engine.specs.Cells.{cells_in}
use Rattle.round_engine.specs.Engines.{stage_of}
use Rattle.round_engine.specs.Stages.{Stage}
use Rattle.round_engine.proofs.FilledBlocks.{AreFilterWords, filter_bit}
use Rattle.round_engine.proofs.RowPairs.{given-more}

-- ---- a row's pair

own_by_words : (t : Truth) (one : Bool) (n : Nullity) (span : code.Interval) (i : Interval) → (IsTrue (may_be_number n) → interval_of span ≡ i) →
    (if is_possible t && may_be_number n then Some (pair_with ((is_certain t && not (may_be_null n)) && one) span) else None)
    ≡ pair_unless_false (and_of (and_of t (if one then True else Unknown)) (truth_of_number n)) i
own_by_words False one n span i lies = refl
own_by_words Unknown true Never span i lies = ap (pair_unless_false Unknown) (lies refl)
own_by_words Unknown true Possibly span i lies = ap (pair_unless_false Unknown) (lies refl)
own_by_words Unknown true Always span i lies = refl
own_by_words Unknown false Never span i lies = ap (pair_unless_false Unknown) (lies refl)
own_by_words Unknown false Possibly span i lies = ap (pair_unless_false Unknown) (lies refl)
own_by_words Unknown false Always span i lies = refl
own_by_words True true Never span i lies = ap (pair_unless_false True) (lies refl)
own_by_words True true Possibly span i lies = ap (pair_unless_false Unknown) (lies refl)
own_by_words True true Always span i lies = refl
own_by_words True false Never span i lies = ap (pair_unless_false Unknown) (lies refl)
own_by_words True false Possibly span i lies = ap (pair_unless_false Unknown) (lies refl)
own_by_words True false Always span i lies = refl

-- what the words of a block tell of a row
module _ (query : Query) (item : Aggregate) (columns : KnownTable) (number : ℕ) (values : BlockValues) (may must : ℕ) (words : AreFilterWords query columns number may must) (read : AreValues item.arg columns number values)
    (r : ℕ) (below : r < count_in_block number columns.frame.rows) where
  abbrev ranges : Ranges
  ranges = ranges_of columns.frame columns.known (64 * number + r)

  pub own_pair : (single : Bool) (span : code.Interval) → single ≡ holds_one_key (groups_of query.shape) ranges → slice_get values.spans r ≡ Some span →
      (if digit_at r (bit_and may values.possible) then Some (pair_with (digit_at r (bit_and must values.sure) && single) span) else None) ≡ pair_in_own_cell (stage_of query columns) item (64 * number + r)
  own_pair single span one at =
      let null = null_of item.arg ranges in
      let t = truth_of query.pred ranges in
      let possible = both_bits r may values.possible (is_possible t) (may_be_number null) (words.may_bit r below) (read.possible r below) in
      let certain = both_bits r must values.sure (is_certain t) (not (may_be_null null)) (words.must_bit r below) (read.sure r below) in
      ap (λ (b : Bool). if b then Some (pair_with (digit_at r (bit_and must values.sure) && single) span) else None) possible
      ∙ ap (λ (b : Bool). if is_possible t && may_be_number null then Some (pair_with (b && single) span) else None) certain
      ∙ ap (λ (b : Bool). if is_possible t && may_be_number null then Some (pair_with ((is_certain t && not (may_be_null null)) && b) span) else None) one
      ∙ own_by_words t (holds_one_key (groups_of query.shape) ranges) null span (span_of item.arg ranges) (read.spans r span below at)

  -- where the first word has no bit there is none, whatever span stands there
  pub no_own_pair : digit_at r (bit_and may values.possible) ≡ false → pair_in_own_cell (stage_of query columns) item (64 * number + r) ≡ None
  no_own_pair none =
      let here : r < length values.spans = omega (arith, read.count, below) in
      let span = get_or values.spans r (record { lo = pos 0; hi = pos 0; ordered = ≤ℤ_refl (pos 0) }) in
      sym (own_pair (holds_one_key (groups_of query.shape) ranges) span refl (slice_get-get_or values.spans r _ here))
      ∙ ap (λ (b : Bool). if b then Some (pair_with (digit_at r (bit_and must values.sure) && holds_one_key (groups_of query.shape) ranges) span) else None) none

  pub own_some : (told certain single : Bool) (span : code.Interval) (row : ℕ) → 64 * number + r ≡ row → told ≡ digit_at r (bit_and may values.possible) → told ≡ true → certain ≡ digit_at r (bit_and must values.sure) →
      single ≡ holds_one_key (groups_of query.shape) (ranges_of columns.frame columns.known row) → slice_get values.spans r ≡ Some span → pair_in_own_cell (stage_of query columns) item row ≡ Some (pair_with (certain && single) span)
  own_some told certain single span row place is set sure one at =
      ap (pair_in_own_cell (stage_of query columns) item) (sym place)
      ∙ sym (own_pair single span (one ∙ ap (λ k. holds_one_key (groups_of query.shape) (ranges_of columns.frame columns.known k)) (sym place)) at)
      ∙ ap (λ (b : Bool). if b then Some (pair_with (digit_at r (bit_and must values.sure) && single) span) else None) (sym is ∙ set)
      ∙ ap (λ b. Some (pair_with (b && single) span)) (sym sure)

  pub own_none : (told : Bool) (row : ℕ) → 64 * number + r ≡ row → told ≡ digit_at r (bit_and may values.possible) → told ≡ false → pair_in_own_cell (stage_of query columns) item row ≡ None
  own_none told row place is unset = ap (pair_in_own_cell (stage_of query columns) item) (sym place) ∙ no_own_pair (sym is ∙ unset)

-- the words that are read of a filter's masks
pub filter_words : (query : Query) (columns : KnownTable) (truths : List Truth) (number : ℕ) (may must : List Bool) (may_word must_word : ℕ) → truths ≡ truths_under query.pred columns → may ≡ map is_possible truths → must ≡ map is_certain truths →
    bits_of (min 64 (length may - 64 * number)) may_word ≡ take 64 (drop (64 * number) may) → bits_of (min 64 (length must - 64 * number)) must_word ≡ take 64 (drop (64 * number) must) → AreFilterWords query columns number may_word must_word
filter_words query columns truths number may must may_word must_word judged may_is must_is may_read must_read = record {
  may_bit = λ r below. filter_bit is_possible may truths query.pred columns may_word number r may_is judged may_read below;
  must_bit = λ r below. filter_bit is_certain must truths query.pred columns must_word number r must_is judged must_read below;
}

before_none : (t g n : Truth) (span : Interval) → is_possible t ≡ false → pair_unless_false (and_of (and_of t g) n) span ≡ None
before_none False g n span may = refl
before_none Unknown g n span may = absurd (false≢true (sym may))
before_none True g n span may = absurd (false≢true (sym may))

-- a block of whose rows none may pass gives no pair to any cell
pub none_passes : (query : Query) (item : Aggregate) (columns : KnownTable) (truths : List Truth) (number r : ℕ) (may : List Bool) (word : ℕ) → truths ≡ truths_under query.pred columns → may ≡ map is_possible truths →
    bits_of (min 64 (length may - 64 * number)) word ≡ take 64 (drop (64 * number) may) → word ≡ 0 → r < count_in_block number columns.frame.rows → pair_in_own_cell (stage_of query columns) item (64 * number + r) ≡ None
none_passes query item columns truths number r may word judged is read none below =
    before_none (truth_of query.pred (ranges_of columns.frame columns.known (64 * number + r))) _ _ _
    (sym (filter_bit is_possible may truths query.pred columns word number r is judged read below) ∙ ap (digit_at r) none ∙ digit-zero r)

module _ (stage : Stage) (item : Aggregate) (row : ℕ) where
  abbrev pub row_ranges : Ranges
  row_ranges = ranges_of stage.frame stage.known row

  abbrev holds : Truth
  holds = truth_of stage.query.pred row_ranges

  abbrev grouped : Truth
  grouped = truth_in_cell (groups_of stage.query.shape) row_ranges

  -- ---- the pairs below the next row

  abbrev here : ℕ
  here = cell_of stage.known (groups_of stage.query.shape) row

  in_own : pair_in_cell stage.query item here stage.frame stage.known row ≡ pair_in_own_cell stage item row
  in_own = ap (λ b. pair_by (and_of holds (if b then grouped else False)) item row_ranges) (eq-eqb here here refl)

  in_other : (cell : ℕ) → cell ≢ here → pair_in_cell stage.query item cell stage.frame stage.known row ≡ None
  in_other cell other =
      ap (λ b. pair_by (and_of holds (if b then grouped else False)) item row_ranges) (not_same (here == cell) refl)
      ∙ none_before holds (truth_of_number (null_of item.arg row_ranges)) (span_of item.arg row_ranges)
    where
      not_same : (b : Bool) → (here == cell) ≡ b → (here == cell) ≡ false
      not_same true e = absurd (other (sym (eqb-true here cell e)))
      not_same false e = e

      none_before : (t n : Truth) (span : Interval) → pair_unless_false (and_of (and_of t False) n) span ≡ None
      none_before False n span = refl
      none_before Unknown n span = refl
      none_before True n span = refl

  abbrev pub pairs_to : ℕ → ℕ → List Pair
  pairs_to cell n = pairs_in_cell_below stage.query item cell stage.frame stage.known n

  pub pairs_with_row : (p : Pair) → pair_in_own_cell stage item row ≡ Some p → pairs_to here (row + 1) ≡ pairs_to here row ++ p ∷ []
  pairs_with_row p given =
      let give = pair_in_cell stage.query item here stage.frame stage.known in
      given-more give row ∙ ap (λ ps. pairs_to here row ++ ps) (one give row p (in_own ∙ given))
    where
      one : (give : ℕ → Option Pair) (row : ℕ) (p : Pair) → give row ≡ Some p → filter_map give (row ∷ []) ≡ p ∷ []
      one give row p given = rw given refl

  without : (cell : ℕ) → pair_in_cell stage.query item cell stage.frame stage.known row ≡ None → pairs_to cell (row + 1) ≡ pairs_to cell row
  without cell given =
      let give = pair_in_cell stage.query item cell stage.frame stage.known in
      given-more give row ∙ none give row (pairs_to cell row) given
    where
      none : (give : ℕ → Option Pair) (row : ℕ) (ps : List Pair) → give row ≡ None → ps ++ filter_map give (row ∷ []) ≡ ps
      none give row ps given = rw given (append-nil ps)

  -- the other cells get no pair of the row
  pub pairs_elsewhere : (cell : ℕ) → cell ≢ here → pairs_to cell (row + 1) ≡ pairs_to cell row
  pairs_elsewhere cell other = without cell (in_other cell other)

  -- no cell gets a pair of a row that gives none
  pub pairs_without_row : pair_in_own_cell stage item row ≡ None → (cell : ℕ) → pairs_to cell (row + 1) ≡ pairs_to cell row
  pairs_without_row given cell =
      elim (cases_eq cell here) [
        | inl e ↦ subst (λ c. pairs_to c (row + 1) ≡ pairs_to c row) (sym e) (without here (in_own ∙ given))
        | inr other ↦ pairs_elsewhere cell other
      ]

-- ---- adding a row

module _ (stage : Stage) (item : Aggregate) (row : ℕ) (cell : ℕ) (is : cell ≡ cell_of stage.known (groups_of stage.query.shape) row) where
  pub may_add : PairsAreFew → SumsOfItemsFit → (running : Tallies) (p : Pair) → row < stage.frame.rows → stage.frame.rows ≤ 16777216 → IsKnowledge stage.frame stage.known → FitsItem stage.frame item →
      cell < cells_in stage → StandBelow stage item row running → pair_in_own_cell stage item row ≡ Some p → MayAdd running cell p
  may_add few sums running p within small knowledge fits counted stand given = record {
    pairs = pairs_in_cell_below stage.query item cell stage.frame stage.known row;
    stands = stand.stands cell counted;
    may_get = record {
      few = (let below = (few stage.query item stage.frame stage.known row).in_cell cell in omega (arith, below));
      fits = λ summed. subst SumsFit (subst (λ c. pairs_in_cell_below stage.query item c stage.frame stage.known (row + 1) ≡ pairs_in_cell_below stage.query item c stage.frame stage.known row ++ p ∷ []) (sym is) (pairs_with_row stage item row p given))
          ((sums stage.query item stage.frame stage.known knowledge (subst IsSumKind stand.has_room.kind summed) fits).below_in_cell cell (row + 1) (omega arith));
    };
  }

  pub stand_more : (old new : Tallies) (p : Pair) → StandBelow stage item row old → IsAdded old new cell p → pair_in_own_cell stage item row ≡ Some p → StandBelow stage item (row + 1) new
  stand_more old new p stand added given = record {
    has_room = record { kind = added.kind ∙ stand.has_room.kind; room = added.room ∙ stand.has_room.room };
    cells = added.count ∙ stand.cells;
    stands = λ other counted. elim (cases_eq other cell) [
      | inl e ↦
          subst (λ c. StandsFor new c (pairs_in_cell_below stage.query item c stage.frame stage.known (row + 1))) (sym (e ∙ is))
          (subst (StandsFor new (cell_of stage.known (groups_of stage.query.shape) row)) (sym (pairs_with_row stage item row p given))
          (subst (λ c. StandsFor new c (pairs_in_cell_below stage.query item c stage.frame stage.known row ++ p ∷ [])) is
          (added.appended (pairs_in_cell_below stage.query item cell stage.frame stage.known row) (stand.stands cell (subst (λ c. c < cells_in stage) e counted)))))
      | inr apart ↦
          subst (StandsFor new other) (sym (pairs_elsewhere stage item row other (λ e. apart (e ∙ sym is))))
          (as_before other apart (stand.stands other counted))
    ];
  }
    where
      as_before : (other : ℕ) → other ≢ cell → {ps : List Pair} → StandsFor old other ps → StandsFor new other ps
      as_before other apart {ps} before = record {
        kept = added.others other apart ∙ before.kept ∙ ap (λ k. Some (tally_of k ps)) (sym added.kind);
        ordered = before.ordered;
      }

pub stand_as_before : (stage : Stage) (item : Aggregate) (row : ℕ) (running : Tallies) → StandBelow stage item row running → pair_in_own_cell stage item row ≡ None → StandBelow stage item (row + 1) running
stand_as_before stage item row running stand given = record {
  has_room = stand.has_room;
  cells = stand.cells;
  stands = λ cell counted. subst (StandsFor running cell) (sym (pairs_without_row stage item row given cell)) (stand.stands cell counted);
}

-- through a block of whose rows none gives a pair
pub stand_past : (stage : Stage) (item : Aggregate) (running : Tallies) (from n : ℕ) → ((r : ℕ) → r < n → pair_in_own_cell stage item (from + r) ≡ None) → StandBelow stage item from running → StandBelow stage item (from + n) running
stand_past stage item running from zero none stand = (let same : from ≡ from + 0 = omega arith in subst (λ k. StandBelow stage item k running) same stand)
stand_past stage item running from (suc n) none stand =
    let next : from + n + 1 ≡ from + suc n = omega arith in
    subst (λ k. StandBelow stage item k running) next
    (stand_as_before stage item (from + n) running (stand_past stage item running from n (λ r below. none r (omega arith)) stand) (none n (omega arith)))
