-- A row more in each cell before and behind a plane that the condition reads: what it gives is as it was, surely counts now, or is gone.
use Rattle.std.proofs.Common.{◌≡◌, ◌≢◌, ℕ, ◌+◌, ◌*◌, ◌%◌, ◌^◌, ◌||◌, IsTrue, ◌<◌, Bool, true, false, not, ◌&&◌, List, [], ◌∷◌, ◌++◌, length, get_or, slice_get, Some, None, inl, inr, refl, sym, ap, subst, ◌∙◌, arith, if◌then◌else◌, append-nil}
use Rattle.std.specs.declared.option.Option.{Option}
use Rattle.std.proofs.lemmas.Bool.{cases_eq, false≢true, or_parts}
use Rattle.std.proofs.lemmas.Option.{slice_get-get_or, same_Some}
use Rattle.interval_calc.specs.Intervals.{Interval}
use Rattle.query_model.specs.declared.bounds.Nullity.{Nullity}
use Rattle.query_model.specs.declared.bounds.Nullity.TheVariants.{Never, Possibly, Always}
use Rattle.query_model.specs.declared.bounds.Truth.{Truth}
use Rattle.query_model.specs.declared.bounds.Truth.TheVariants.{False, Unknown, True}
use Rattle.query_model.specs.declared.query.ItemKind.{ItemKind}
use Rattle.query_model.specs.declared.query.ItemKind.TheVariants.{Avg, Count, Max, Min, Sum}
use Rattle.query_model.specs.Answers.{groups_of}
use Rattle.query_model.specs.Bounds.{Pair, pair_by, pair_unless_false}
use Rattle.query_model.specs.Groups.{cell_of, holds_one_key, pairs_in_cell_below, truth_in_cell}
use Rattle.query_model.specs.Queries.{Aggregate}
use Rattle.query_model.specs.Truths.{and_of, may_be_null, may_be_number, null_of, span_of, truth_of, truth_of_number}
use Rattle.query_model.specs.Knowledge.{CanTake, ranges_of}
use Rattle.query_model.specs.Laws.{PairsAreFew}
use Rattle.query_model.specs.Meaning.{columns_of}
use Rattle.query_model.proofs.Nesting.{Refines, ranges_narrower, taken_is_knowledge, truth_refines}
use Rattle.query_model.proofs.Queries.{ranges_ordered}
use Rattle.kleene_filter.specs.Filters.{is_certain, is_possible, stands_in}
use Rattle.kleene_filter.proofs.WordBits.{both_bits, digit-or}
use Rattle.known_column.specs.Columns.{count_in_block}
use Rattle.aggregates.specs.SumsOfCells.{FitsCell}
use Rattle.digit_sums.specs.declared.moves.RowMoves.{RowMoves}
use Rattle.digit_sums.specs.Moves.{AreMoved, AreMovedFor, CountedMoves}
use Rattle.digit_sums.proofs.MovedRows.{came_more, few_moves, left_more, stays_more}
use Rattle.round_engine.specs.CellAnswers.{pair_in_own_cell}
use Rattle.round_engine.specs.Cells.{cells_in}
use Rattle.round_engine.specs.MovedCells.{AreMovedBelow, IsMovedFrom, IsRowMoved, moved_by}
use Rattle.round_engine.specs.Stages.{IsOpenStage, Stage, stepped}
use Rattle.std.specs.Int.{bit_not, w64}
use Rattle.std.specs.Int.Bits.{bit_and, bit_or}
use Rattle.plane_kernels.specs.Rows.{digit_at}
use Rattle.row_groups.specs.Partition.{is_group}
use Rattle.round_engine.proofs.CellKept.{cell_still, keys_still}
use Rattle.round_engine.proofs.Unmoved.{pair_by_unmoved}
use Rattle.round_engine.proofs.ReadBlocks.{digit-first}
use Rattle.round_engine.proofs.SetBits.{PassesOver, digit-not}
use Rattle.round_engine.proofs.CellPairs.{pairs_elsewhere, pairs_with_row, pairs_without_row}

-- ---- a row

-- the pairs of a row
abbrev pub list_of : Option Pair → List Pair
list_of None = []
list_of (Some p) = p ∷ []

-- what is known of whether a row gives a value, by the condition, by whether its cell holds one key, and by its value
abbrev pub gives : Truth → Bool → Nullity → Truth
gives t alone n = and_of (and_of t (if alone then True else Unknown)) (truth_of_number n)

-- it came to count for certain
abbrev pub has_come : Truth → Truth → Bool → Nullity → Bool
has_come was now alone n = ((is_certain now && not (is_certain was)) && not (may_be_null n)) && alone

-- it left
abbrev pub has_left : Truth → Truth → Nullity → Bool
has_left was now n = (is_possible was && not (is_possible now)) && may_be_number n

module _ (old new : List Pair) (moves : RowMoves) (moved : AreMoved old new moves) (span : Interval) where
  abbrev Gives : Truth → Truth → RowMoves → Type 0
  Gives was now after = AreMoved (old ++ list_of (pair_unless_false was span)) (new ++ list_of (pair_unless_false now span)) after

  nothing : Gives False False moves
  nothing = subst (λ ps. AreMoved ps (new ++ []) moves) (sym (append-nil old)) (subst (λ ps. AreMoved old ps moves) (sym (append-nil new)) moved)

  same : (t : Truth) → Gives t t moves
  same False = nothing
  same Unknown = stays_more old new moves moved (record { certain = false; low = span.low; high = span.high })
  same True = stays_more old new moves moved (record { certain = true; low = span.low; high = span.high })

  module _ (fits : FitsCell span.low span.high) where
    gone : Gives Unknown False (moved_by false true span.low span.high moves)
    gone =
        subst (λ ps. AreMoved (old ++ record { certain = false; low = span.low; high = span.high } ∷ []) ps (moved_by false true span.low span.high moves)) (sym (append-nil new))
        (left_more old new moves moved span.low span.high fits)

    surely : Gives Unknown True (moved_by true false span.low span.high moves)
    surely = came_more old new moves moved span.low span.high fits

    pub row_moved : (was now : Truth) (alone : Bool) (n : Nullity) → Refines now was →
        Gives (gives was alone n) (gives now alone n) (moved_by (has_come was now alone n) (has_left was now n) span.low span.high moves)
    row_moved False False alone n r = same (gives False alone n)
    row_moved False Unknown alone n r = absurd (false≢true (sym (r true tt)))
    row_moved False True alone n r = absurd (false≢true (sym (r true refl)))
    row_moved Unknown False alone Never r = by_keys alone
      where
        by_keys : (alone : Bool) → Gives (gives Unknown alone Never) (gives False alone Never) (moved_by false true span.low span.high moves)
        by_keys true = gone
        by_keys false = gone
    row_moved Unknown False alone Possibly r = by_keys alone
      where
        by_keys : (alone : Bool) → Gives (gives Unknown alone Possibly) (gives False alone Possibly) (moved_by false true span.low span.high moves)
        by_keys true = gone
        by_keys false = gone
    row_moved Unknown False alone Always r = by_keys alone
      where
        by_keys : (alone : Bool) → Gives (gives Unknown alone Always) (gives False alone Always) moves
        by_keys true = nothing
        by_keys false = nothing
    row_moved Unknown Unknown alone n r = same (gives Unknown alone n)
    row_moved Unknown True true Never r = surely
    row_moved Unknown True false Never r = same Unknown
    row_moved Unknown True true Possibly r = same Unknown
    row_moved Unknown True false Possibly r = same Unknown
    row_moved Unknown True true Always r = nothing
    row_moved Unknown True false Always r = nothing
    row_moved True False alone n r = absurd (false≢true (r false refl))
    row_moved True Unknown alone n r = absurd (false≢true (r false tt))
    row_moved True True alone n r = same (gives True alone n)

-- ---- the cells of a row

abbrev pub pairs_to : Stage → Aggregate → ℕ → ℕ → List Pair
pairs_to stage item cell n = pairs_in_cell_below stage.query item cell stage.frame stage.known n

-- its own cell gets what it gives
row_given : (stage : Stage) (item : Aggregate) (row : ℕ) (given : Option Pair) → pair_in_own_cell stage item row ≡ given →
    pairs_to stage item (cell_of stage.known (groups_of stage.query.shape) row) (row + 1) ≡ pairs_to stage item (cell_of stage.known (groups_of stage.query.shape) row) row ++ list_of given
row_given stage item row None is = pairs_without_row stage item row is (cell_of stage.known (groups_of stage.query.shape) row) ∙ sym (append-nil _)
row_given stage item row (Some p) is = pairs_with_row stage item row p is

module _ (before stage : Stage) (item : Aggregate) (row : ℕ) (still : cell_of stage.known (groups_of stage.query.shape) row ≡ cell_of before.known (groups_of before.query.shape) row) where
  abbrev here : ℕ
  here = cell_of stage.known (groups_of stage.query.shape) row

  abbrev MovedTo : ℕ → ℕ → RowMoves → Type 0
  MovedTo cell n moves = AreMoved (pairs_to before item cell n) (pairs_to stage item cell n) moves

  moved_elsewhere : (cell : ℕ) (moves : RowMoves) → cell ≢ here → MovedTo cell row moves → MovedTo cell (row + 1) moves
  moved_elsewhere cell moves other moved =
      subst (λ ps. AreMoved ps (pairs_to stage item cell (row + 1)) moves) (sym (pairs_elsewhere before item row cell (λ e. other (e ∙ sym still))))
      (subst (λ qs. AreMoved (pairs_to before item cell row) qs moves) (sym (pairs_elsewhere stage item row cell other)) moved)

  moved_here : (was now : Truth) (span : Interval) (moves after : RowMoves) → pair_in_own_cell before item row ≡ pair_unless_false was span → pair_in_own_cell stage item row ≡ pair_unless_false now span →
      AreMoved (pairs_to before item here row ++ list_of (pair_unless_false was span)) (pairs_to stage item here row ++ list_of (pair_unless_false now span)) after → MovedTo here (row + 1) after
  moved_here was now span moves after given_before given_now moved =
      let before_row : pairs_to before item here (row + 1) ≡ pairs_to before item here row ++ list_of (pair_unless_false was span) =
      subst (λ c. pairs_to before item c (row + 1) ≡ pairs_to before item c row ++ list_of (pair_unless_false was span)) (sym still) (row_given before item row (pair_unless_false was span) given_before) in
      subst (λ ps. AreMoved ps (pairs_to stage item here (row + 1)) after) (sym before_row)
      (subst (λ qs. AreMoved (pairs_to before item here row ++ list_of (pair_unless_false was span)) qs after) (sym (row_given stage item row (pair_unless_false now span) given_now)) moved)

  -- the row in all cells, where it is counted in its own as it moved
  pub moved_more : (was now : Truth) (alone : Bool) (n : Nullity) (span : Interval) (old new : CountedMoves) → Refines now was → FitsCell span.low span.high →
      pair_in_own_cell before item row ≡ pair_unless_false (gives was alone n) span → pair_in_own_cell stage item row ≡ pair_unless_false (gives now alone n) span →
      ((cell : ℕ) → length (pairs_to before item cell row) < 16777216) → here < cells_in stage →
      IsRowMoved old new here (has_come was now alone n) (has_left was now n) span.low span.high → AreMovedBelow before stage item row old → AreMovedBelow before stage item (row + 1) new
  moved_more was now alone n span old new refines fits given_before given_now few inside counted below = record {
    cells = counted.count ∙ below.cells;
    each = λ cell moves at. elim (cases_eq cell here) [
      | inl own ↦
          (let none : RowMoves = record { came = 0; left = 0; raised = 0; lowered = 0 } in
          let earlier = get_or old.cells here none in
          let was_there : slice_get old.cells here ≡ Some earlier = slice_get-get_or old.cells here none (omega (arith, inside, below.cells)) in
          let moved = below.each here earlier was_there in
          let after = moved_by (has_come was now alone n) (has_left was now n) span.low span.high earlier in
          let told : after ≡ moves = same_Some after moves (sym (counted.counted earlier (few_moves _ _ earlier moved.counts (few here)) was_there) ∙ ap (slice_get new.cells) (sym own) ∙ at) in
          subst (λ m. MovedTo cell (row + 1) m) told
          (subst (λ c. MovedTo c (row + 1) after) (sym own)
          (moved_here (gives was alone n) (gives now alone n) span earlier after given_before given_now
          (row_moved (pairs_to before item here row) (pairs_to stage item here row) earlier moved span fits was now alone n refines))))
      | inr other ↦ moved_elsewhere cell moves other (below.each cell moves (sym (counted.others cell other) ∙ at))
    ];
  }

  -- and where it did not move
  pub still_more : (was now : Truth) (alone : Bool) (n : Nullity) (span : Interval) (counted : CountedMoves) → now ≡ was →
      pair_in_own_cell before item row ≡ pair_unless_false (gives was alone n) span → pair_in_own_cell stage item row ≡ pair_unless_false (gives now alone n) span →
      AreMovedBelow before stage item row counted → AreMovedBelow before stage item (row + 1) counted
  still_more was now alone n span counted unmoved given_before given_now below = record {
    cells = below.cells;
    each = λ cell moves at. elim (cases_eq cell here) [
      | inl own ↦
          (let moved = subst (λ c. MovedTo c row moves) own (below.each cell moves at) in
          let given : pair_in_own_cell stage item row ≡ pair_unless_false (gives was alone n) span = given_now ∙ ap (λ t. pair_unless_false (gives t alone n) span) unmoved in
          subst (λ c. MovedTo c (row + 1) moves) (sym own)
          (moved_here (gives was alone n) (gives was alone n) span moves moves given_before given
          (same (pairs_to before item here row) (pairs_to stage item here row) moves moved span (gives was alone n))))
      | inr other ↦ moved_elsewhere cell moves other (below.each cell moves at)
    ];
  }

-- a condition that neither came to hold surely nor ceased to may hold has the truth that it had
same_truth : (was now : Truth) → Refines now was → (is_certain now && not (is_certain was)) ≡ false → (is_possible was && not (is_possible now)) ≡ false → now ≡ was
same_truth False False r came left = refl
same_truth False Unknown r came left = absurd (false≢true (sym (r true tt)))
same_truth False True r came left = absurd (false≢true (sym (r true refl)))
same_truth Unknown False r came left = absurd (false≢true (sym left))
same_truth Unknown Unknown r came left = refl
same_truth Unknown True r came left = absurd (false≢true (sym came))
same_truth True False r came left = absurd (false≢true (r false refl))
same_truth True Unknown r came left = absurd (false≢true (r false tt))
same_truth True True r came left = refl

-- ---- a row of a stage

-- where the value is surely null, whatever span is told, nothing is given
span_told : (x : Truth) (n : Nullity) (told span : Interval) → (IsTrue (may_be_number n) → told ≡ span) → pair_unless_false (and_of x (truth_of_number n)) span ≡ pair_unless_false (and_of x (truth_of_number n)) told
span_told x Never told span lies = ap (pair_unless_false (and_of x True)) (sym (lies refl))
span_told x Possibly told span lies = ap (pair_unless_false (and_of x Unknown)) (sym (lies refl))
span_told False Always told span lies = refl
span_told Unknown Always told span lies = refl
span_told True Always told span lies = refl

module _ (before : Stage) (item : Aggregate) (row : ℕ) where
  abbrev pub was : Truth
  was = truth_of before.query.pred (ranges_of before.frame before.known row)

  abbrev pub now_at : Stage → Truth
  now_at stage = truth_of stage.query.pred (ranges_of stage.frame stage.known row)

  abbrev alone_at : Stage → Bool
  alone_at stage = holds_one_key (groups_of stage.query.shape) (ranges_of stage.frame stage.known row)

  abbrev null_at : Stage → Nullity
  null_at stage = null_of item.arg (ranges_of stage.frame stage.known row)

  -- a row that was counted in its cell as it moved
  pub record IsCounted (stage : Stage) (old new : CountedMoves) (cell : ℕ) (came left : Bool) (told : Interval) : Type 0 where
    pub place : cell ≡ cell_of stage.known (groups_of stage.query.shape) row
    pub came_is : came ≡ has_come was (now_at stage) (alone_at stage) (null_at stage)
    pub left_is : left ≡ has_left was (now_at stage) (null_at stage)
    pub lies : IsTrue (may_be_number (null_at stage)) → told ≡ span_of item.arg (ranges_of stage.frame stage.known row)
    pub fits : FitsCell told.low told.high
    pub inside : cell < cells_in stage
    pub counted : IsRowMoved old new cell came left told.low told.high

  abbrev FollowsRow : Stage → Type 0
  FollowsRow stage = (old new : CountedMoves) (cell : ℕ) (came left : Bool) (told : Interval) → IsCounted stage old new cell came left told → AreMovedBelow before stage item row old → AreMovedBelow before stage item (row + 1) new

  abbrev pub StaysRow : Stage → Type 0
  StaysRow stage = (counted : CountedMoves) → (is_certain (now_at stage) && not (is_certain was)) ≡ false → (is_possible was && not (is_possible (now_at stage))) ≡ false → AreMovedBelow before stage item row counted → AreMovedBelow before stage item (row + 1) counted

  module _ (c : ℕ) (bits : List Bool) (open_stage : IsOpenStage before) (legal : CanTake before.frame before.known c bits) (cells_stay : is_group (groups_of before.query.shape) c ≡ false) (values_stay : stands_in (columns_of item.arg) c ≡ false) (below : row < before.frame.rows) (few : PairsAreFew) where
    abbrev after : Stage
    after = stepped before c bits

    abbrev groups : List ℕ
    groups = groups_of before.query.shape

    refined : Refines (now_at after) was
    refined =
        truth_refines before.query.pred (ranges_of before.frame after.known row) (ranges_of before.frame before.known row)
        (ranges_ordered before.frame after.known row (taken_is_knowledge before.frame before.known c bits open_stage.knowledge legal) below)
        (ranges_narrower before.frame before.known c bits row open_stage.knowledge legal below)

    given_before : (told : Interval) → (IsTrue (may_be_number (null_at after)) → told ≡ span_of item.arg (ranges_of before.frame after.known row)) → pair_in_own_cell before item row ≡ pair_unless_false (gives was (alone_at after) (null_at after)) told
    given_before told lies =
        sym (pair_by_unmoved (and_of was (truth_in_cell groups (ranges_of before.frame before.known row))) item before.frame before.known c bits row values_stay)
        ∙ ap (λ one. pair_by (and_of was (if one then True else Unknown)) item (ranges_of before.frame after.known row)) (sym (keys_still before.frame before.known c bits row groups cells_stay))
        ∙ span_told (and_of was (if alone_at after then True else Unknown)) (null_at after) told (span_of item.arg (ranges_of before.frame after.known row)) lies

    pub row_followed : FollowsRow after
    row_followed old new cell came left told is moved =
        let still : cell_of after.known groups row ≡ cell_of before.known groups row = cell_still before.frame before.known c bits row groups cells_stay in
        let counted = subst (λ b. IsRowMoved old new (cell_of after.known groups row) b (has_left was (now_at after) (null_at after)) told.low told.high) is.came_is
        (subst (λ b. IsRowMoved old new (cell_of after.known groups row) came b told.low told.high) is.left_is
        (subst (λ k. IsRowMoved old new k came left told.low told.high) is.place is.counted)) in
        moved_more before after item row still was (now_at after) (alone_at after) (null_at after) told old new refined is.fits
        (given_before told is.lies) (span_told (and_of (now_at after) (if alone_at after then True else Unknown)) (null_at after) told (span_of item.arg (ranges_of before.frame after.known row)) is.lies)
        (λ k. (let most = (few before.query item before.frame before.known row).in_cell k in let rows = open_stage.open_query.few_rows in omega (arith, most, below, rows)))
        (subst (λ k. k < cells_in after) is.place is.inside) counted moved

    pub row_stays : StaysRow after
    row_stays counted came left moved =
        let still : cell_of after.known groups row ≡ cell_of before.known groups row = cell_still before.frame before.known c bits row groups cells_stay in
        still_more before after item row still was (now_at after) (alone_at after) (null_at after) (span_of item.arg (ranges_of before.frame after.known row)) counted
        (same_truth was (now_at after) refined came left) (given_before _ (λ _. refl)) refl moved

-- the same at a stage of which another is told to be the one before
pub stage_followed : (stage : Stage) (item : Aggregate) (before : Stage) → IsMovedFrom stage item before → (row : ℕ) → row < stage.frame.rows → PairsAreFew → FollowsRow before item row stage
stage_followed stage item before is row below few =
    subst (FollowsRow before item row) (sym is.read)
    (row_followed before item row is.column is.bits is.open_stage is.legal is.cells_stay is.values_stay (subst (λ (s : Stage). row < s.frame.rows) is.read below) few)

pub stage_stays : (stage : Stage) (item : Aggregate) (before : Stage) → IsMovedFrom stage item before → (row : ℕ) → row < stage.frame.rows → PairsAreFew → StaysRow before item row stage
stage_stays stage item before is row below few =
    subst (StaysRow before item row) (sym is.read)
    (row_stays before item row is.column is.bits is.open_stage is.legal is.cells_stay is.values_stay (subst (λ (s : Stage). row < s.frame.rows) is.read below) few)

-- ---- the words of a block

pub digit_not : (n r : ℕ) (b : Bool) → n < 18446744073709551616 → r < 64 → digit_at r n ≡ b → digit_at r (bit_not w64 n) ≡ not b
digit_not n r b fits below is = digit-not r n fits below ∙ ap not is

-- ---- the rows of a block that moved, from the lowest on

-- no row of the block moved whose bit in the word is 0
abbrev pub TellsMoved : Stage → Stage → Aggregate → ℕ → ℕ → Type 0
TellsMoved before stage item number word =
    (r : ℕ) → r < count_in_block number stage.frame.rows → digit_at r word ≡ false →
    ((is_certain (now_at before item (64 * number + r) stage) && not (is_certain (was before item (64 * number + r)))) ≡ false)
    × ((is_possible (was before item (64 * number + r)) && not (is_possible (now_at before item (64 * number + r) stage))) ≡ false)

-- by the words of its masks before and behind the plane
pub words_tell : (before stage : Stage) (item : Aggregate) (number may must was_may was_must moved : ℕ) → may < 18446744073709551616 → was_must < 18446744073709551616 →
    moved ≡ bit_or (bit_and must (bit_not w64 was_must)) (bit_and was_may (bit_not w64 may)) % 2 ^ count_in_block number stage.frame.rows →
    ((r : ℕ) → r < count_in_block number stage.frame.rows → digit_at r may ≡ is_possible (now_at before item (64 * number + r) stage)) →
    ((r : ℕ) → r < count_in_block number stage.frame.rows → digit_at r must ≡ is_certain (now_at before item (64 * number + r) stage)) →
    ((r : ℕ) → r < count_in_block number stage.frame.rows → digit_at r was_may ≡ is_possible (was before item (64 * number + r))) →
    ((r : ℕ) → r < count_in_block number stage.frame.rows → digit_at r was_must ≡ is_certain (was before item (64 * number + r))) →
    TellsMoved before stage item number moved
words_tell before stage item number may must was_may was_must moved may_fits must_fits is may_bit must_bit may_was must_was r below none =
    let came = bit_and must (bit_not w64 was_must) in
    let left = bit_and was_may (bit_not w64 may) in
    let neither : (digit_at r came || digit_at r left) ≡ false =
    sym (digit-or r came left) ∙ sym (digit-first (count_in_block number stage.frame.rows) (bit_or came left) r below) ∙ sym (ap (digit_at r) is) ∙ none in
    let came_is = both_bits r must (bit_not w64 was_must) _ _ (must_bit r below) (digit_not was_must r _ must_fits (omega (arith, below)) (must_was r below)) in
    let left_is = both_bits r was_may (bit_not w64 may) _ _ (may_was r below) (digit_not may r _ may_fits (omega (arith, below)) (may_bit r below)) in
    (sym came_is ∙ (or_parts (digit_at r came) (digit_at r left) neither).0, sym left_is ∙ (or_parts (digit_at r came) (digit_at r left) neither).1)

-- where nothing moved, a row may be passed over
pub moved_passes : (stage : Stage) (item : Aggregate) (before : Stage) → IsMovedFrom stage item before → PairsAreFew → (number word : ℕ) → TellsMoved before stage item number word → (counted : CountedMoves) →
    PassesOver (count_in_block number stage.frame.rows) word (λ r. AreMovedBelow before stage item (64 * number + r) counted)
moved_passes stage item before is few number word told counted r below none moved =
    let next : 64 * number + r + 1 ≡ 64 * number + (r + 1) = omega arith in
    let still = told r below none in
    subst (λ n. AreMovedBelow before stage item n counted) next (stage_stays stage item before is (64 * number + r) (omega (arith, below)) few counted still.0 still.1 moved)

-- each kind asks for no more than all that moved rows change
pub moved_for : (kind : ItemKind) → (old new : List Pair) (moves : RowMoves) → AreMoved old new moves → AreMovedFor kind old new moves
moved_for Count old new moves moved = moved.counts
moved_for Sum old new moves moved = moved
moved_for Min old new moves moved = moved
moved_for Max old new moves moved = moved
moved_for Avg old new moves moved = moved
