-- Items that the counts of rows tell, by the rows of cells.
use Rattle.std.proofs.Common.{◌≡◌, ◌==◌, ℕ, Bool, true, false, zero, suc, ◌+◌, ◌<◌, ◌≤◌, List, length, slice_get, Some, None, pos, refl, sym, ap, subst, ◌∙◌, arith, if◌then◌else◌}
use Rattle.std.specs.List.{cons_option, filter_map, range_with_len}
use Rattle.std.proofs.lemmas.Option.{same_Some}
use Rattle.daq_table.specs.Tables.{Frame}
use Rattle.interval_calc.specs.Intervals.{Interval}
use Rattle.aggregates.specs.Runnings.{Tallies}
use Rattle.aggregates.specs.Tallies.{tally_of}
use Rattle.aggregates.specs.declared.tally.Tally.{Tally}
use Rattle.query_model.specs.declared.bounds.Nullity.TheVariants.{Never, Possibly}
use Rattle.query_model.specs.declared.bounds.Truth.{Truth}
use Rattle.query_model.specs.declared.bounds.Truth.TheVariants.{False, Unknown, True}
use Rattle.query_model.specs.declared.query.ItemKind.TheVariants.{Count}
use Rattle.query_model.specs.Answers.{every_row, groups_of}
use Rattle.query_model.specs.Bounds.{Pair, certain_count, pair_unless_false}
use Rattle.query_model.specs.Groups.{cell_of, pair_in_cell, pairs_in_cell, truth_in_cell}
use Rattle.query_model.specs.Knowledge.{Knowledge, ranges_of}
use Rattle.query_model.specs.Queries.{Aggregate, Query}
use Rattle.query_model.specs.Truths.{and_of, null_of, span_of, truth_of, truth_of_number}
use Rattle.round_engine.specs.CellAnswers.{StandForCells}
use Rattle.round_engine.specs.Cells.{cells_in}
use Rattle.round_engine.specs.Counts.{AreValuesOf, HaveSpan}
use Rattle.round_engine.specs.Stages.{Stage}

-- what is kept of a cell's rows
pub counted_rows : (stage : Stage) (presence : Tallies) (cell : ℕ) (tally : Tally) → StandForCells stage every_row presence → cell < cells_in stage → slice_get presence.cells cell ≡ Some tally →
    tally ≡ tally_of Count (pairs_in_cell stage.query every_row cell stage.frame stage.known)
counted_rows stage presence cell tally stand within at =
    let ps = pairs_in_cell stage.query every_row cell stage.frame stage.known in
    same_Some tally _ (sym at ∙ (stand.stands cell within).kept ∙ ap (λ k. Some (tally_of k ps)) stand.has_room.kind)

-- ---- the values of rows

value_more : (nullable : Bool) (t : Truth) (i j : Interval) (ps qs : List Pair) → AreValuesOf nullable ps qs →
    AreValuesOf nullable (cons_option (pair_unless_false (and_of t (truth_of_number (if nullable then Possibly else Never))) i) ps) (cons_option (pair_unless_false (and_of t (truth_of_number Never)) j) qs)
value_more nullable False i j ps qs are = are
value_more true Unknown i j ps qs are = record { all = ap suc are.all; certain = are.certain }
value_more true True i j ps qs are = record { all = ap suc are.all; certain = are.certain }
value_more false Unknown i j ps qs are = record { all = ap suc are.all; certain = are.certain }
value_more false True i j ps qs are = record { all = ap suc are.all; certain = ap suc are.certain }

module _ (query : Query) (item : Aggregate) (cell : ℕ) (frame : Frame) (known : Knowledge) (nullable : Bool) (null : (row : ℕ) → row < frame.rows → null_of item.arg (ranges_of frame known row) ≡ (if nullable then Possibly else Never)) where
  values_from : (a n : ℕ) → a + n ≤ frame.rows → AreValuesOf nullable (filter_map (pair_in_cell query item cell frame known) (range_with_len a n)) (filter_map (pair_in_cell query every_row cell frame known) (range_with_len a n))
  values_from a zero within = record { all = refl; certain = none nullable }
    where
      none : (b : Bool) → ◌≡◌ {A = ℕ} 0 (if b then 0 else 0)
      none true = refl
      none false = refl
  values_from a (suc n) within =
      let ranges = ranges_of frame known a in
      let groups = groups_of query.shape in
      let t = and_of (truth_of query.pred ranges) (if cell_of known groups a == cell then truth_in_cell groups ranges else False) in
      let ps = filter_map (pair_in_cell query item cell frame known) (range_with_len (a + 1) n) in
      let qs = filter_map (pair_in_cell query every_row cell frame known) (range_with_len (a + 1) n) in
      let zero_span = span_of every_row.arg ranges in
      subst (λ null. AreValuesOf nullable (cons_option (pair_unless_false (and_of t (truth_of_number null)) (span_of item.arg ranges)) ps) (cons_option (pair_unless_false (and_of t (truth_of_number Never)) zero_span) qs)) (sym (null a (omega arith)))
      (value_more nullable t (span_of item.arg ranges) zero_span ps qs (values_from (a + 1) n (omega arith)))

  pub values_in_cell : AreValuesOf nullable (pairs_in_cell query item cell frame known) (pairs_in_cell query every_row cell frame known)
  values_in_cell = values_from 0 frame.rows (omega arith)

abbrev count_kept : ℕ → ℕ → Tally
count_kept certain all = record { certain = certain; all = all; least_low = None; greatest_high = None; least_certain_high = None; greatest_certain_low = None; low_sum = pos 0; high_sum = pos 0 }

-- values that are never null are counted as rows are
pub counts_alike : (query : Query) (item : Aggregate) (cell : ℕ) (frame : Frame) (known : Knowledge) → ((row : ℕ) → null_of item.arg (ranges_of frame known row) ≡ Never) →
    tally_of Count (pairs_in_cell query item cell frame known) ≡ tally_of Count (pairs_in_cell query every_row cell frame known)
counts_alike query item cell frame known never =
    let ps = pairs_in_cell query item cell frame known in
    let qs = pairs_in_cell query every_row cell frame known in
    let alike = values_in_cell query item cell frame known false (λ row below. never row) in
    ap (λ n. count_kept n (length ps)) alike.certain ∙ ap (count_kept (certain_count qs)) alike.all

-- ---- items of whose values no more is known than that each lies in one span

spanned_pair : (t : Truth) (i span : Interval) (ps : List Pair) → i ≡ span → HaveSpan span ps → HaveSpan span (cons_option (pair_unless_false t i) ps)
spanned_pair False i span ps is have = have
spanned_pair Unknown i span ps is have = ((ap (λ (j : Interval). j.low) is, ap (λ (j : Interval). j.high) is), have)
spanned_pair True i span ps is have = ((ap (λ (j : Interval). j.low) is, ap (λ (j : Interval). j.high) is), have)

module _ (query : Query) (item : Aggregate) (frame : Frame) (known : Knowledge) (cell : ℕ) (span : Interval) (one : (row : ℕ) → row < frame.rows → span_of item.arg (ranges_of frame known row) ≡ span) where
  spanned_from : (a n : ℕ) → a + n ≤ frame.rows → HaveSpan span (filter_map (pair_in_cell query item cell frame known) (range_with_len a n))
  spanned_from a zero within = tt
  spanned_from a (suc n) within =
      let ranges = ranges_of frame known a in
      let groups = groups_of query.shape in
      spanned_pair (and_of (and_of (truth_of query.pred ranges) (if cell_of known groups a == cell then truth_in_cell groups ranges else False)) (truth_of_number (null_of item.arg ranges))) (span_of item.arg ranges) span _
      (one a (omega arith)) (spanned_from (a + 1) n (omega arith))

  -- so are their pairs
  pub spanned_cell : HaveSpan span (pairs_in_cell query item cell frame known)
  spanned_cell = spanned_from 0 frame.rows (omega arith)
