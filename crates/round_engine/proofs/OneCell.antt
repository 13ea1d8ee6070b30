-- The pairs of a cell that has all rows, as masks tell them.
use Rattle.std.proofs.Common.{◌≡◌, ℕ, zero, suc, ◌+◌, ◌<◌, ◌≤◌, ◌==◌, ◌≤ℤ◌, Bool, true, false, ◌&&◌, not, cond, List, [], ◌∷◌, length, map, filter, filter_map, get_or, replicate, slice_get, Some, count_by, refl, sym, ap, subst, ◌∙◌, arith, if◌then◌else◌}
use Rattle.std.specs.declared.option.Option.{Option}
use Rattle.std.specs.List.{cons_option, range_with_len}
use Rattle.std.specs.Simd.Lanes.{zip2}
use Rattle.std.proofs.lemmas.Bool.{eq-eqb, false≢true}
use Rattle.std.proofs.lemmas.List.FromFn.{get_or-map-range_with_len, length-map-range_with_len}
use Rattle.std.proofs.lemmas.List.{length-map}
use Rattle.std.proofs.lemmas.Option.{get_or_from_slice_get, slice_get-get_or}
use Rattle.std.proofs.lemmas.Simd.{length-zip2}
use Rattle.interval_calc.specs.Intervals.{Interval}
use Rattle.aggregates.specs.declared.tally.Tally.{Tally}
use Rattle.aggregates.specs.Runnings.{IsBlank, IsSet, StandsFor, Tallies}
use Rattle.aggregates.specs.Selections.{MayHaveValues, has_row}
use Rattle.aggregates.specs.Tallies.{AreOrdered, tally_of}
use Rattle.aggregates.proofs.BlockWords.{row_within}
use Rattle.aggregates.proofs.Values.{taken_from_possible}
use Rattle.kleene_filter.specs.Filters.{is_certain, is_possible, truth_at, truths_under}
use Rattle.known_column.specs.Columns as column
use Rattle.known_column.specs.Columns.{KnownColumn, is_sure, numbers_at, rows_of_column, rows_where}
use Rattle.known_column.specs.KnownTables.{KnownTable, column_at}
use Rattle.query_model.specs.declared.bounds.Nullity.{Nullity}
use Rattle.query_model.specs.declared.bounds.Nullity.TheVariants.{Always, Never, Possibly}
use Rattle.query_model.specs.declared.bounds.Truth.{Truth}
use Rattle.query_model.specs.declared.bounds.Truth.TheVariants.{False, Unknown, True}
use Rattle.query_model.specs.declared.query.Shape.TheVariants.{Plain}
use Rattle.query_model.specs.Answers.{groups_of}
use Rattle.query_model.specs.Bounds.{Pair, certain_count, pair_by, pair_unless_false}
use Rattle.query_model.specs.Groups.{cell_of, pair_in_cell, pairs_in_cell, truth_in_cell}
use Rattle.query_model.specs.Knowledge.{IsKnowledge, ranges_of}
use Rattle.query_model.specs.Queries.{Aggregate, Column, Query}
use Rattle.query_model.specs.Truths.{and_of, may_be_null, may_be_number, null_of, span_of, truth_of_number}
use Rattle.query_model.proofs.Groups.{joined_below}
use Rattle.query_model.proofs.Queries.{ranges_ordered, span_ordered}
use Rattle.row_groups.specs.Partition.{CellsTellKeys, RowCells}
use Rattle.round_engine.specs.declared.selection.Selection.{Selection}
use Rattle.round_engine.specs.CellAnswers.{HasRoom, IsParted, StandForCells}
use Rattle.round_engine.specs.Cells.{cells_in}
use Rattle.round_engine.specs.Engines.{stage_of}
use Rattle.round_engine.specs.OneCell.{IsAlone}
use Rattle.round_engine.specs.Selected.{HasRows, IsSelection, pair_in, pairs_in}
use Rattle.round_engine.specs.Stages.{Stage}
use Rattle.round_engine.proofs.CellKept.{parted_rows}
use Rattle.round_engine.proofs.CellRows.{cell_counted, cell_single}
use Rattle.round_engine.proofs.Masked.{AreCounted, certain_may, count-tested, counted, rows_by_column, sure_may, tested, told_pair}
use Rattle.round_engine.proofs.SelectedPairs.{pairs_told}

-- ---- one cell

-- what is kept of the first cell is so of each row
pub is_alone : (stage : Stage) (cells : RowCells) (single : List Bool) → IsParted stage cells single → IsKnowledge stage.frame stage.known → CellsTellKeys → cells_in stage ≡ 1 → IsAlone stage (get_or single 0 false)
is_alone stage cells single parted k tell one = record {
  one = one;
  told = λ row below.
      (let here : row < length cells.cells = omega (arith, below, parted_rows stage cells single parted) in
      let cell = get_or cells.cells row 0 in
      let there : slice_get cells.cells row ≡ Some cell = slice_get-get_or cells.cells row 0 here in
      let counted : cell < cells_in stage = cell_counted stage cells single parted k row below cell there in
      let lowest : cell ≡ 0 = omega (arith, counted, one) in
      sym (ap (λ n. get_or single n false) (sym lowest) ∙ get_or_from_slice_get single cell _ false (cell_single stage cells single parted k row below tell cell there)));
}

-- ---- a row's pair

pub by_key : (t : Truth) (one : Bool) (n : Nullity) (span : Interval) →
    pair_unless_false (and_of (and_of t (if one then True else Unknown)) (truth_of_number n)) span ≡ told_pair (cond one (is_certain t && not (may_be_null n)) false) (is_possible t && may_be_number n) span
by_key False one n span = refl
by_key Unknown true Never span = refl
by_key Unknown true Possibly span = refl
by_key Unknown true Always span = refl
by_key Unknown false Never span = refl
by_key Unknown false Possibly span = refl
by_key Unknown false Always span = refl
by_key True true Never span = refl
by_key True true Possibly span = refl
by_key True true Always span = refl
by_key True false Never span = refl
by_key True false Possibly span = refl
by_key True false Always span = refl

-- the same where the argument is never null
pub by_key_alone : (t : Truth) (one : Bool) (span : Interval) → pair_unless_false (and_of (and_of t (if one then True else Unknown)) (truth_of_number Never)) span ≡ told_pair (cond one (is_certain t) false) (is_possible t) span
by_key_alone False one span = refl
by_key_alone Unknown true span = refl
by_key_alone Unknown false span = refl
by_key_alone True true span = refl
by_key_alone True false span = refl

pub if_single : (one : Bool) (sure may : Bool) → (sure ≡ true → may ≡ true) → cond one sure false ≡ true → may ≡ true
if_single true sure may h is = h is
if_single false sure may h is = absurd (false≢true is)

-- ---- rows that tests tell

none_tested : (a n : ℕ) → replicate n false ≡ map (λ (r : ℕ). false) (range_with_len a n)
none_tested a zero = refl
none_tested a (suc n) = ap (λ bs. false ∷ bs) (none_tested (a + 1) n)

none_passes : (rs : List ℕ) → length (filter (λ (r : ℕ). false) rs) ≡ 0
none_passes [] = refl
none_passes (r ∷ rs) = none_passes rs

-- the rows of a mask, or none of them
pub tested_if : (one : Bool) (test : ℕ → Bool) (mask : List Bool) (n : ℕ) → mask ≡ map test (range_with_len 0 n) → (if one then mask else replicate n false) ≡ map (λ r. cond one (test r) false) (range_with_len 0 n)
tested_if true test mask n is = is
tested_if false test mask n is = none_tested 0 n

pub counted_if : (one : Bool) (test : ℕ → Bool) (mask : List Bool) (n : ℕ) → mask ≡ map test (range_with_len 0 n) → (if one then count_by (λ b. b) mask else 0) ≡ length (filter (λ r. cond one (test r) false) (range_with_len 0 n))
counted_if true test mask n is = ap (count_by (λ b. b)) is ∙ count-tested test 0 n
counted_if false test mask n is = sym (none_passes (range_with_len 0 n))

-- the same masks, by other names
pub must_if : (one : Bool) (must all every none nothing : List Bool) → must ≡ (if one then all else none) → all ≡ every → none ≡ nothing → must ≡ (if one then every else nothing)
must_if true must all every none nothing is same empty = is ∙ same
must_if false must all every none nothing is same empty = is ∙ empty

-- both masks have as many rows as the filter
pub selected_rows : (rows : ℕ) (truths : List Truth) (known : KnownColumn) (selection : Selection) → length truths ≡ rows → rows_of_column known ≡ rows →
    selection.may ≡ zip2 (λ a b. a && b) (map is_possible truths) (rows_where column.is_possible known) → selection.must ≡ zip2 (λ a b. a && b) (map is_certain truths) (rows_where is_sure known) → HasRows rows selection
selected_rows rows truths known selection long all may_is must_is = record {
  may = ap length may_is ∙ both (map is_possible truths) (rows_where column.is_possible known) (length-map truths is_possible ∙ long) (length-map known.known.prefixes (column.is_possible known.ends known.known.read) ∙ all);
  must = ap length must_is ∙ both (map is_certain truths) (rows_where is_sure known) (length-map truths is_certain ∙ long) (length-map known.known.prefixes (is_sure known.ends known.known.read) ∙ all);
}
  where
    both : (xs ys : List Bool) → length xs ≡ rows → length ys ≡ rows → length (zip2 (λ a b. a && b) xs ys) ≡ rows
    both xs ys x y = length-zip2 (λ a b. a && b) xs ys (x ∙ sym y) ∙ x

-- masks that tests tell are a selection, and its pairs are those of the rows
module _ (known : KnownColumn) (selection : Selection) (n : ℕ) (rows : rows_of_column known ≡ n) (surely perhaps : ℕ → Bool)
    (must_is : selection.must ≡ map surely (range_with_len 0 n)) (may_is : selection.may ≡ map perhaps (range_with_len 0 n)) where
  long : (test : ℕ → Bool) (mask : List Bool) → mask ≡ map test (range_with_len 0 n) → length mask ≡ n
  long test mask is = ap length is ∙ length-map-range_with_len test 0 n

  at_row : (test : ℕ → Bool) (mask : List Bool) → mask ≡ map test (range_with_len 0 n) → (r : ℕ) → r < n → has_row mask r ≡ test r
  at_row test mask is r below = ap (λ m. get_or m r false) is ∙ get_or-map-range_with_len test 0 n r r false below (omega arith)

  pub rows_selected : MayHaveValues known selection.may → ((r : ℕ) → surely r ≡ true → perhaps r ≡ true) → IsSelection known selection
  rows_selected values nested =
      let must_long = long surely selection.must must_is in
      let may_long = long perhaps selection.may may_is in
      record {
        rows = record { may = may_long ∙ sym rows; must = must_long ∙ sym rows };
        values = values;
        nested = λ r has.
            (let below : r < n = omega (arith, row_within selection.must r has, must_long) in
            at_row perhaps selection.may may_is r below ∙ nested r (sym (at_row surely selection.must must_is r below) ∙ has));
      }

  pub pairs_selected : (give : ℕ → Option Pair) → ((r : ℕ) → r < n → give r ≡ told_pair (surely r) (perhaps r) (numbers_at known r)) → filter_map give (range_with_len 0 n) ≡ pairs_in known selection
  pairs_selected give told =
      pairs_told give (has_row selection.must) (has_row selection.may) (numbers_at known) 0 n (λ r above below.
      told r (omega arith)
      ∙ ap (λ b. told_pair b (perhaps r) (numbers_at known r)) (sym (at_row surely selection.must must_is r (omega arith)))
      ∙ ap (λ b. told_pair (has_row selection.must r) b (numbers_at known r)) (sym (at_row perhaps selection.may may_is r (omega arith))))
      ∙ ap (λ k. map (pair_in known selection.must) (filter (has_row selection.may) (range_with_len 0 k))) (sym (long perhaps selection.may may_is))

-- ---- the pairs of the cell

module _ (query : Query) (item : Aggregate) (columns : KnownTable) (k : IsKnowledge columns.frame columns.known) (certain : Bool) (alone : IsAlone (stage_of query columns) certain) where
  abbrev groups : List ℕ
  groups = groups_of query.shape

  abbrev pub pairs_alone : List Pair
  pairs_alone = pairs_in_cell query item 0 columns.frame columns.known

  -- the row is in the cell, and counts for its key for certain where the cell holds one
  keyed : (r : ℕ) → r < columns.frame.rows →
      pair_in_cell query item 0 columns.frame columns.known r ≡ pair_by (and_of (truth_at query.pred columns r) (if certain then True else Unknown)) item (ranges_of columns.frame columns.known r)
  keyed r below =
      let ranges = ranges_of columns.frame columns.known r in
      let holds = truth_at query.pred columns r in
      let inside : cell_of columns.known groups r < cells_in (stage_of query columns) = joined_below columns.frame columns.known r groups k below in
      let here : (cell_of columns.known groups r == 0) ≡ true = eq-eqb (cell_of columns.known groups r) 0 (omega (arith, inside, alone.one)) in
      ap (λ b. pair_by (and_of holds (if b then truth_in_cell groups ranges else False)) item ranges) here
      ∙ ap (λ b. pair_by (and_of holds (if b then True else Unknown)) item ranges) (alone.told r below)

  -- a count of the rows that pass
  module _ (never : (r : ℕ) → null_of item.arg (ranges_of columns.frame columns.known r) ≡ Never) where
    rows_counted : AreCounted (λ r. cond certain (is_certain (truth_at query.pred columns r)) false) (λ r. is_possible (truth_at query.pred columns r)) (range_with_len 0 columns.frame.rows) pairs_alone
    rows_counted = counted _ _ _ (λ r. span_of item.arg (ranges_of columns.frame columns.known r)) 0 columns.frame.rows (λ r above below.
        let ranges = ranges_of columns.frame columns.known r in
        let holds = truth_at query.pred columns r in (
          keyed r (omega arith)
              ∙ ap (λ n. pair_unless_false (and_of (and_of holds (if certain then True else Unknown)) (truth_of_number n)) (span_of item.arg ranges)) (never r)
              ∙ by_key_alone holds certain (span_of item.arg ranges),
          if_single certain (is_certain holds) (is_possible holds) (certain_may holds),
        ))

    pub sure_count : (truths : List Truth) → truths ≡ truths_under query.pred columns → (if certain then count_by (λ b. b) (map is_certain truths) else 0) ≡ certain_count pairs_alone
    sure_count truths judged =
        counted_if certain (λ r. is_certain (truth_at query.pred columns r)) (map is_certain truths) columns.frame.rows
        (tested plain_query item columns refl is_certain (map is_certain truths) truths refl judged) ∙ sym rows_counted.0
      where
        plain_query : Query
        plain_query = record { columns = query.columns; items = query.items; pred = query.pred; shape = Plain }

    pub all_count : (truths : List Truth) → truths ≡ truths_under query.pred columns → count_by (λ b. b) (map is_possible truths) ≡ length pairs_alone
    all_count truths judged =
        ap (count_by (λ b. b)) (tested plain_query item columns refl is_possible (map is_possible truths) truths refl judged)
        ∙ count-tested (λ r. is_possible (truth_at query.pred columns r)) 0 columns.frame.rows ∙ sym rows_counted.1
      where
        plain_query : Query
        plain_query = record { columns = query.columns; items = query.items; pred = query.pred; shape = Plain }

  -- a bare column's values
  module _ (truths : List Truth) (judged : truths ≡ truths_under query.pred columns) (known : KnownColumn) (c : ℕ) (arg : item.arg ≡ Column c) (there : known ≡ column_at columns c)
      (rows : rows_of_column known ≡ columns.frame.rows) (selection : Selection) (may_is : selection.may ≡ zip2 (λ a b. a && b) (map is_possible truths) (rows_where column.is_possible known))
      (must_is : selection.must ≡ (if certain then zip2 (λ a b. a && b) (map is_certain truths) (rows_where is_sure known) else replicate columns.frame.rows false)) where
    abbrev surely : ℕ → Bool
    surely r = is_certain (truth_at query.pred columns r) && not (may_be_null (null_of item.arg (ranges_of columns.frame columns.known r)))

    abbrev perhaps : ℕ → Bool
    perhaps r = is_possible (truth_at query.pred columns r) && may_be_number (null_of item.arg (ranges_of columns.frame columns.known r))

    told_rows : (selection.must ≡ map (λ r. cond certain (surely r) false) (range_with_len 0 columns.frame.rows)) × (selection.may ≡ map perhaps (range_with_len 0 columns.frame.rows))
    told_rows =
        let told = rows_by_column (record { columns = query.columns; items = query.items; pred = query.pred; shape = Plain }) item columns refl truths (map is_certain truths) (map is_possible truths) judged refl refl known c
        (rows_where is_sure known) (rows_where column.is_possible known) arg there rows refl refl in
        (must_is ∙ tested_if certain surely (zip2 (λ a b. a && b) (map is_certain truths) (rows_where is_sure known)) columns.frame.rows told.0, may_is ∙ told.1)

    pub selection_alone : IsSelection known selection
    selection_alone =
        rows_selected known selection columns.frame.rows rows (λ r. cond certain (surely r) false) perhaps told_rows.0 told_rows.1
        (subst (MayHaveValues known) (sym may_is) (taken_from_possible known (map is_possible truths)))
        (λ r. if_single certain (surely r) (perhaps r) (sure_may (truth_at query.pred columns r) (null_of item.arg (ranges_of columns.frame columns.known r))))

    pub selected_alone : pairs_alone ≡ pairs_in known selection
    selected_alone =
        pairs_selected known selection columns.frame.rows rows (λ r. cond certain (surely r) false) perhaps told_rows.0 told_rows.1 (pair_in_cell query item 0 columns.frame columns.known) (λ r below.
        let ranges = ranges_of columns.frame columns.known r in
        let span : span_of item.arg ranges ≡ numbers_at known r = ap (λ e. span_of e ranges) arg ∙ ap (λ (w : KnownColumn). numbers_at w r) (sym there) in
        keyed r below ∙ by_key (truth_at query.pred columns r) certain (null_of item.arg ranges) (span_of item.arg ranges)
        ∙ ap (told_pair (cond certain (surely r) false) (perhaps r)) span)

-- ---- the answers

pub ordered_pair : (t : Truth) (span : Interval) (ps : List Pair) → span.low ≤ℤ span.high → AreOrdered ps → AreOrdered (cons_option (pair_unless_false t span) ps)
ordered_pair False span ps o h = h
ordered_pair Unknown span ps o h = (o, h)
ordered_pair True span ps o h = (o, h)

module _ (query : Query) (item : Aggregate) (columns : KnownTable) (k : IsKnowledge columns.frame columns.known) (cell : ℕ) where
  ordered_from : (a n : ℕ) → a + n ≤ columns.frame.rows → AreOrdered (filter_map (pair_in_cell query item cell columns.frame columns.known) (range_with_len a n))
  ordered_from a zero h = tt
  ordered_from a (suc n) h =
      let ranges = ranges_of columns.frame columns.known a in
      let groups = groups_of query.shape in
      ordered_pair (and_of (and_of (truth_at query.pred columns a) (if cell_of columns.known groups a == cell then truth_in_cell groups ranges else False)) (truth_of_number (null_of item.arg ranges))) (span_of item.arg ranges) _
      (span_ordered item.arg ranges (ranges_ordered columns.frame columns.known a k (omega arith)))
      (ordered_from (a + 1) n (omega arith))

  pub ordered_cell : AreOrdered (pairs_in_cell query item cell columns.frame columns.known)
  ordered_cell = ordered_from 0 columns.frame.rows (omega arith)

pub stand_alone : (query : Query) (item : Aggregate) (columns : KnownTable) (old begun new : Tallies) (tally : Tally) (certain : Bool) → IsKnowledge columns.frame columns.known → IsAlone (stage_of query columns) certain →
    HasRoom (stage_of query columns) item old → IsBlank begun old.kind old.room 1 → IsSet begun new 0 tally → tally ≡ tally_of item.kind (pairs_in_cell query item 0 columns.frame columns.known) → StandForCells (stage_of query columns) item new
stand_alone query item columns old begun new tally certain k alone room blank set is =
    let kind = set.kind ∙ blank.kind_is ∙ room.kind in
    let ps = pairs_in_cell query item 0 columns.frame columns.known in
    record {
      has_room = record { kind = kind; room = set.room ∙ blank.room_is ∙ room.room };
      cells = set.count ∙ blank.count ∙ sym alone.one;
      stands = λ cell within.
          (let lowest : 0 ≡ cell = omega (arith, within, alone.one) in
          subst (λ n. StandsFor new n (pairs_in_cell query item n columns.frame columns.known)) lowest
          (record { kept = set.kept ∙ ap Some (is ∙ ap (λ j. tally_of j ps) (sym kind)); ordered = ordered_cell query item columns k 0 }));
    }
