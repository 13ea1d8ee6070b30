-- The pairs of a cell, as masks of its rows tell them.
use Rattle.std.proofs.Common.{◌≡◌, ℕ, ◌+◌, ◌<◌, ◌==◌, Bool, true, false, ◌&&◌, not, cond, List, length, map, get_or, replicate, slice_get, Some, count_by, inl, inr, refl, sym, ap, subst, ◌∙◌, arith, if◌then◌else◌}
use Rattle.std.specs.List.{range_with_len}
use Rattle.std.specs.Simd.Lanes.{zip2}
use Rattle.std.proofs.lemmas.Bool.{cases_Bool, cases_eq, eqb-true}
use Rattle.std.proofs.lemmas.List.{length-map}
use Rattle.std.proofs.lemmas.List.FromFn.{get_or-map-range_with_len, length-map-range_with_len}
use Rattle.std.proofs.lemmas.Option.{get_or_from_slice_get, slice_get-get_or}
use Rattle.std.proofs.lemmas.Simd.{length-zip2, map-map}
use Rattle.interval_calc.specs.Intervals.{Interval}
use Rattle.aggregates.specs.declared.tally.Tally.{Tally}
use Rattle.aggregates.specs.Runnings.{IsSet, StandsFor, Tallies}
use Rattle.aggregates.specs.Selections.{MayHaveValues}
use Rattle.aggregates.specs.Tallies.{tally_of}
use Rattle.aggregates.proofs.Values.{taken_from_possible}
use Rattle.kleene_filter.specs.Filters.{is_certain, is_possible, truth_at, truths_under}
use Rattle.known_column.specs.Columns as column
use Rattle.known_column.specs.Columns.{KnownColumn, is_sure, numbers_at, rows_of_column, rows_where}
use Rattle.known_column.specs.KnownTables.{KnownTable, column_at}
use Rattle.query_model.specs.declared.bounds.Nullity.{Nullity}
use Rattle.query_model.specs.declared.bounds.Nullity.TheVariants.{Never}
use Rattle.query_model.specs.declared.bounds.Truth.{Truth}
use Rattle.query_model.specs.declared.bounds.Truth.TheVariants.{False, Unknown, True}
use Rattle.query_model.specs.declared.query.Shape.TheVariants.{Plain}
use Rattle.query_model.specs.Answers.{groups_of}
use Rattle.query_model.specs.Bounds.{Pair, certain_count, pair_by, pair_unless_false}
use Rattle.query_model.specs.Groups.{cell_of, pair_in_cell, pairs_in_cell}
use Rattle.query_model.specs.Knowledge.{IsKnowledge, ranges_of}
use Rattle.query_model.specs.Queries.{Aggregate, Column, Query}
use Rattle.query_model.specs.Truths.{and_of, may_be_null, may_be_number, null_of, span_of, truth_of_number}
use Rattle.row_groups.specs.Partition.{CellsTellKeys, RowCells}
use Rattle.round_engine.specs.declared.selection.Selection.{Selection}
use Rattle.round_engine.specs.CellAnswers.{HasRoom, IsParted}
use Rattle.round_engine.specs.Cells.{cells_in}
use Rattle.round_engine.specs.Engines.{stage_of}
use Rattle.round_engine.specs.OneCell.{IsPart}
use Rattle.round_engine.specs.Selected.{HasRows, IsSelection, pairs_in}
use Rattle.round_engine.specs.Stages.{Stage}
use Rattle.round_engine.proofs.CellKept.{parted_rows}
use Rattle.round_engine.proofs.CellRows.{cell_is, cell_single}
use Rattle.round_engine.proofs.Masked.{AreCounted, both_tested, certain_may, count-tested, counted, marked, sure_may, tested, told_pair}
use Rattle.round_engine.proofs.OneCell.{by_key, by_key_alone, counted_if, if_single, ordered_cell, pairs_selected, rows_selected, tested_if}

-- ---- the rows of a cell

pub is_part : (stage : Stage) (cells : RowCells) (single : List Bool) (cell : ℕ) (within : List Bool) → IsParted stage cells single → IsKnowledge stage.frame stage.known → CellsTellKeys →
    within ≡ map (λ c. c == cell) cells.cells → IsPart stage cell (get_or single cell false) within
is_part stage cells single cell within parted k tell is = record {
  rows = is ∙ ap (map (λ c. c == cell)) parted.cells_are.rows ∙ map-map (λ c. c == cell) (cell_of stage.known (groups_of stage.query.shape)) (range_with_len 0 stage.frame.rows);
  told = λ row below same.
      (let here : row < length cells.cells = omega (arith, below, parted_rows stage cells single parted) in
      let found = get_or cells.cells row 0 in
      let there : slice_get cells.cells row ≡ Some found = slice_get-get_or cells.cells row 0 here in
      let is_cell : found ≡ cell = cell_is stage cells single parted k row below found there ∙ same in
      sym (ap (λ n. get_or single n false) (sym is_cell) ∙ get_or_from_slice_get single found _ false (cell_single stage cells single parted k row below tell found there)));
}

-- ---- a row's pair

pub by_part : (t : Truth) (here one : Bool) (n : Nullity) (span : Interval) → pair_unless_false (and_of (and_of t (if here then (if one then True else Unknown) else False)) (truth_of_number n)) span
    ≡ told_pair (cond one ((here && is_certain t) && not (may_be_null n)) false) ((here && is_possible t) && may_be_number n) span
by_part t true one n span = by_key t one n span
by_part False false one n span = refl
by_part Unknown false one n span = refl
by_part True false one n span = refl

by_part_alone : (t : Truth) (here one : Bool) (span : Interval) → pair_unless_false (and_of (and_of t (if here then (if one then True else Unknown) else False)) (truth_of_number Never)) span
    ≡ told_pair (cond one (here && is_certain t) false) (here && is_possible t) span
by_part_alone t true one span = by_key_alone t one span
by_part_alone False false one span = refl
by_part_alone Unknown false one span = refl
by_part_alone True false one span = refl

and_keeps : (here sure may : Bool) → (sure ≡ true → may ≡ true) → (here && sure) ≡ true → (here && may) ≡ true
and_keeps true sure may h is = h is
and_keeps false sure may h is = is

pub sure_keeps : (t : Truth) (here : Bool) (n : Nullity) → ((here && is_certain t) && not (may_be_null n)) ≡ true → ((here && is_possible t) && may_be_number n) ≡ true
sure_keeps t true n is = sure_may t n is
sure_keeps t false n is = is

-- ---- the pairs of the cell

module _ (query : Query) (item : Aggregate) (columns : KnownTable) (cell : ℕ) (certain : Bool) (within : List Bool) (part : IsPart (stage_of query columns) cell certain within) where
  abbrev groups : List ℕ
  groups = groups_of query.shape

  abbrev inside : ℕ → Bool
  inside r = cell_of columns.known groups r == cell

  abbrev pub pairs_part : List Pair
  pairs_part = pairs_in_cell query item cell columns.frame columns.known

  pub keyed_part : (r : ℕ) → r < columns.frame.rows → pair_in_cell query item cell columns.frame columns.known r
      ≡ pair_by (and_of (truth_at query.pred columns r) (if inside r then (if certain then True else Unknown) else False)) item (ranges_of columns.frame columns.known r)
  keyed_part r below =
      let ranges = ranges_of columns.frame columns.known r in
      let holds = truth_at query.pred columns r in
      elim (cases_Bool (inside r)) [
        | inl t ↦ rw t (ap (λ b. pair_by (and_of holds (if b then True else Unknown)) item ranges) (part.told r below (eqb-true (cell_of columns.known groups r) cell t)))
        | inr f ↦ rw f refl
      ]

  -- a mask of the filter, within the cell
  pub filtered : (f : Truth → Bool) (truths : List Truth) → truths ≡ truths_under query.pred columns →
      zip2 (λ a b. a && b) within (map f truths) ≡ map (λ r. inside r && f (truth_at query.pred columns r)) (range_with_len 0 columns.frame.rows)
  filtered f truths judged =
      let n = columns.frame.rows in
      let test : ℕ → Bool = λ r. f (truth_at query.pred columns r) in
      let is = tested (record { columns = query.columns; items = query.items; pred = query.pred; shape = Plain }) item columns refl f (map f truths) truths refl judged in
      both_tested inside test within (map f truths) n part.rows (ap length is ∙ length-map-range_with_len test 0 n)
      (λ k below. ap (λ m. get_or m k false) is ∙ get_or-map-range_with_len test 0 n k k false below (omega arith))

  -- a count of the rows that pass
  module _ (never : (r : ℕ) → null_of item.arg (ranges_of columns.frame columns.known r) ≡ Never) where
    part_counted : AreCounted (λ r. cond certain (inside r && is_certain (truth_at query.pred columns r)) false) (λ r. inside r && is_possible (truth_at query.pred columns r)) (range_with_len 0 columns.frame.rows) pairs_part
    part_counted = counted _ _ _ (λ r. span_of item.arg (ranges_of columns.frame columns.known r)) 0 columns.frame.rows (λ r above below.
        let ranges = ranges_of columns.frame columns.known r in
        let holds = truth_at query.pred columns r in (
          keyed_part r (omega arith)
              ∙ ap (λ n. pair_unless_false (and_of (and_of holds (if inside r then (if certain then True else Unknown) else False)) (truth_of_number n)) (span_of item.arg ranges)) (never r)
              ∙ by_part_alone holds (inside r) certain (span_of item.arg ranges),
          if_single certain (inside r && is_certain holds) (inside r && is_possible holds) (and_keeps (inside r) (is_certain holds) (is_possible holds) (certain_may holds)),
        ))

    pub sure_part : (truths : List Truth) → truths ≡ truths_under query.pred columns → (if certain then count_by (λ b. b) (zip2 (λ a b. a && b) within (map is_certain truths)) else 0) ≡ certain_count pairs_part
    sure_part truths judged = counted_if certain (λ r. inside r && is_certain (truth_at query.pred columns r)) (zip2 (λ a b. a && b) within (map is_certain truths)) columns.frame.rows (filtered is_certain truths judged) ∙ sym part_counted.0

    pub all_part : (truths : List Truth) → truths ≡ truths_under query.pred columns → count_by (λ b. b) (zip2 (λ a b. a && b) within (map is_possible truths)) ≡ length pairs_part
    all_part truths judged = ap (count_by (λ b. b)) (filtered is_possible truths judged) ∙ count-tested (λ r. inside r && is_possible (truth_at query.pred columns r)) 0 columns.frame.rows ∙ sym part_counted.1

  -- a bare column's values
  module _ (truths : List Truth) (judged : truths ≡ truths_under query.pred columns) (known : KnownColumn) (c : ℕ) (arg : item.arg ≡ Column c) (there : known ≡ column_at columns c)
      (rows : rows_of_column known ≡ columns.frame.rows) (selection : Selection)
      (may_is : selection.may ≡ zip2 (λ a b. a && b) (zip2 (λ a b. a && b) within (map is_possible truths)) (rows_where column.is_possible known))
      (must_is : selection.must ≡ (if certain then zip2 (λ a b. a && b) (zip2 (λ a b. a && b) within (map is_certain truths)) (rows_where is_sure known) else replicate columns.frame.rows false)) where
    abbrev surely : ℕ → Bool
    surely r = (inside r && is_certain (truth_at query.pred columns r)) && not (may_be_null (null_of item.arg (ranges_of columns.frame columns.known r)))

    abbrev perhaps : ℕ → Bool
    perhaps r = (inside r && is_possible (truth_at query.pred columns r)) && may_be_number (null_of item.arg (ranges_of columns.frame columns.known r))

    sure_rows : zip2 (λ a b. a && b) (zip2 (λ a b. a && b) within (map is_certain truths)) (rows_where is_sure known) ≡ map surely (range_with_len 0 columns.frame.rows)
    sure_rows =
        let at = marked (record { columns = query.columns; items = query.items; pred = query.pred; shape = Plain }) item columns refl is_sure known c (rows_where is_sure known) there refl rows in
        both_tested _ _ (zip2 (λ a b. a && b) within (map is_certain truths)) (rows_where is_sure known) columns.frame.rows (filtered is_certain truths judged) at.0
        (λ k below. at.1 k below ∙ ap (λ e. not (may_be_null (null_of e (ranges_of columns.frame columns.known k)))) (sym arg))

    may_rows : zip2 (λ a b. a && b) (zip2 (λ a b. a && b) within (map is_possible truths)) (rows_where column.is_possible known) ≡ map perhaps (range_with_len 0 columns.frame.rows)
    may_rows =
        let at = marked (record { columns = query.columns; items = query.items; pred = query.pred; shape = Plain }) item columns refl column.is_possible known c (rows_where column.is_possible known) there refl rows in
        both_tested _ _ (zip2 (λ a b. a && b) within (map is_possible truths)) (rows_where column.is_possible known) columns.frame.rows (filtered is_possible truths judged) at.0
        (λ k below. at.1 k below ∙ ap (λ e. may_be_number (null_of e (ranges_of columns.frame columns.known k))) (sym arg))

    told_must : selection.must ≡ map (λ r. cond certain (surely r) false) (range_with_len 0 columns.frame.rows)
    told_must = must_is ∙ tested_if certain surely (zip2 (λ a b. a && b) (zip2 (λ a b. a && b) within (map is_certain truths)) (rows_where is_sure known)) columns.frame.rows sure_rows

    pub selection_part : IsSelection known selection
    selection_part =
        rows_selected known selection columns.frame.rows rows (λ r. cond certain (surely r) false) perhaps told_must (may_is ∙ may_rows)
        (subst (MayHaveValues known) (sym may_is) (taken_from_possible known (zip2 (λ a b. a && b) within (map is_possible truths))))
        (λ r. if_single certain (surely r) (perhaps r) (sure_keeps (truth_at query.pred columns r) (inside r) (null_of item.arg (ranges_of columns.frame columns.known r))))

    pub selected_part : pairs_part ≡ pairs_in known selection
    selected_part =
        pairs_selected known selection columns.frame.rows rows (λ r. cond certain (surely r) false) perhaps told_must (may_is ∙ may_rows) (pair_in_cell query item cell columns.frame columns.known) (λ r below.
        let ranges = ranges_of columns.frame columns.known r in
        let span : span_of item.arg ranges ≡ numbers_at known r = ap (λ e. span_of e ranges) arg ∙ ap (λ (w : KnownColumn). numbers_at w r) (sym there) in
        keyed_part r below ∙ by_part (truth_at query.pred columns r) (inside r) certain (null_of item.arg ranges) (span_of item.arg ranges)
        ∙ ap (told_pair (cond certain (surely r) false) (perhaps r)) span)

  -- masks of so many rows
  pub part_rows : (truths : List Truth) → truths ≡ truths_under query.pred columns → (known : KnownColumn) → rows_of_column known ≡ columns.frame.rows → (selection : Selection) →
      selection.may ≡ zip2 (λ a b. a && b) (zip2 (λ a b. a && b) within (map is_possible truths)) (rows_where column.is_possible known) →
      selection.must ≡ zip2 (λ a b. a && b) (zip2 (λ a b. a && b) within (map is_certain truths)) (rows_where is_sure known) → HasRows columns.frame.rows selection
  part_rows truths judged known rows selection may_is must_is = record {
    may = ap length may_is ∙ both is_possible (rows_where column.is_possible known) (length-map known.known.prefixes (column.is_possible known.ends known.known.read) ∙ rows);
    must = ap length must_is ∙ both is_certain (rows_where is_sure known) (length-map known.known.prefixes (is_sure known.ends known.known.read) ∙ rows);
  }
    where
      inner : (f : Truth → Bool) → length (zip2 (λ a b. a && b) within (map f truths)) ≡ columns.frame.rows
      inner f = ap length (filtered f truths judged) ∙ length-map-range_with_len (λ r. inside r && f (truth_at query.pred columns r)) 0 columns.frame.rows

      both : (f : Truth → Bool) (ys : List Bool) → length ys ≡ columns.frame.rows → length (zip2 (λ a b. a && b) (zip2 (λ a b. a && b) within (map f truths)) ys) ≡ columns.frame.rows
      both f ys y = length-zip2 (λ a b. a && b) (zip2 (λ a b. a && b) within (map f truths)) ys (inner f ∙ sym y) ∙ inner f

-- ---- the answers

-- each cell below a number stands for its rows
pub record ArePartsBelow (query : Query) (item : Aggregate) (columns : KnownTable) (cell : ℕ) (running : Tallies) : Type 0 where
  pub room : HasRoom (stage_of query columns) item running
  pub count : length running.cells ≡ cells_in (stage_of query columns)
  pub done : (k : ℕ) → k < cell → StandsFor running k (pairs_in_cell query item k columns.frame columns.known)

pub part_more : (query : Query) (item : Aggregate) (columns : KnownTable) (cell : ℕ) (old new : Tallies) (tally : Tally) → IsKnowledge columns.frame columns.known → ArePartsBelow query item columns cell old → IsSet old new cell tally →
    tally ≡ tally_of item.kind (pairs_in_cell query item cell columns.frame columns.known) → ArePartsBelow query item columns (cell + 1) new
part_more query item columns cell old new tally k parts set is =
    let kind = set.kind ∙ parts.room.kind in
    record {
      room = record { kind = kind; room = set.room ∙ parts.room.room };
      count = set.count ∙ parts.count;
      done = λ j below. elim (cases_eq j cell) [
        | inl e ↦
            subst (λ n. StandsFor new n (pairs_in_cell query item n columns.frame columns.known)) (sym e)
            (record { kept = set.kept ∙ ap Some (is ∙ ap (λ m. tally_of m (pairs_in_cell query item cell columns.frame columns.known)) (sym kind)); ordered = ordered_cell query item columns k cell })
        | inr other ↦
            (let here = parts.done j (omega (arith, below, other)) in
            record { kept = set.others j other ∙ here.kept ∙ ap (λ m. Some (tally_of m (pairs_in_cell query item j columns.frame columns.known))) (sym set.kind); ordered = here.ordered })
      ];
    }
