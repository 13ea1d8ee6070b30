use Rattle.std.proofs.Common.{length, sym, ap, subst, ◌∙◌}
use Rattle.std.proofs.lemmas.List.FromFn.{length-map-range_with_len}
use Rattle.aggregates.specs.Tallies.{tally_of}
use Rattle.kleene_filter.specs.Filters.{truth_at}
use Rattle.query_model.specs.Meaning.{ReadsBelow}
use Rattle.query_model.specs.Queries.{Aggregate}
use Rattle.round_engine.specs.Selected.{HasRows, pairs_in}
use Rattle.round_engine.proofs.KeptCells.{sums_at, sums_of}
use Rattle.round_engine.proofs.OneCell.{must_if, selected_alone, selected_rows, selection_alone}
use Rattle.round_engine.proofs.one_cell.CellMasks.tally_column.Goals as goal

pub column-known-requires : goal.column-known-requires
column-known-requires c = subst (ReadsBelow (length c.args.columns.now.frame.columns)) c.requires.column c.requires.open_item.columns

pub select-requires : goal.select-requires
select-requires c = record {
  room = subst (λ n. HasRows n c.args.self.now.selection) (sym c.column-known.ensures.rows) c.requires.masks.selection;
  rows = ap length c.requires.judged ∙ length-map-range_with_len (truth_at c.args.query.now.pred c.args.columns.now) 0 c.args.columns.now.frame.rows ∙ sym c.column-known.ensures.rows;
}

pub select_all-requires-clause-rows : goal.select_all-requires-clause-rows
select_all-requires-clause-rows c = ap length c.requires.judged ∙ length-map-range_with_len (truth_at c.args.query.now.pred c.args.columns.now) 0 c.args.columns.now.frame.rows ∙ sym c.column-known.ensures.rows

pub tally-requires-clause-selection : goal.tally-requires-clause-selection
tally-requires-clause-selection c =
    selection_alone c.args.query.now c.args.item.now c.args.columns.now c.requires.open_stage.knowledge c.args.certain c.requires.alone c.args.filter.now.truths c.requires.judged
    c.column-known.result.now c.args.column c.requires.column c.column-known.ensures.column c.column-known.ensures.rows c.certain_if.result
    (c.certain_if.ensures.may ∙ ap (λ s. s.may) c.lend.ensures ∙ c.select.ensures.may)
    (must_if c.args.certain _ _ _ _ _ c.certain_if.ensures.must (ap (λ s. s.must) c.lend.ensures ∙ c.select.ensures.must) c.requires.masks.none)

pub tally-requires-else-nullable-clause-selection : goal.tally-requires-else-nullable-clause-selection
tally-requires-else-nullable-clause-selection c =
    selection_alone c.args.query.now c.args.item.now c.args.columns.now c.requires.open_stage.knowledge c.args.certain c.requires.alone c.args.filter.now.truths c.requires.judged
    c.column-known.result.now c.args.column c.requires.column c.column-known.ensures.column c.column-known.ensures.rows c.certain_if-else-nullable.result
    (c.certain_if-else-nullable.ensures.may ∙ c.select_all.ensures.may)
    (must_if c.args.certain _ _ _ _ _ c.certain_if-else-nullable.ensures.must c.select_all.ensures.must c.requires.masks.none)

pub returns-then-nullable-clause-masks : goal.returns-then-nullable-clause-masks
returns-then-nullable-clause-masks c = record {
  selection =
      selected_rows c.args.columns.now.frame.rows c.args.filter.now.truths c.column-known.result.now c.select.new.self
      (ap length c.requires.judged ∙ length-map-range_with_len (truth_at c.args.query.now.pred c.args.columns.now) 0 c.args.columns.now.frame.rows)
      c.column-known.ensures.rows c.select.ensures.may c.select.ensures.must;
  added = c.tally.ensures.room ∙ c.column-known.ensures.rows;
  none = c.requires.masks.none;
}

pub returns-then-nullable-clause-tally : goal.returns-then-nullable-clause-tally
returns-then-nullable-clause-tally c =
    let same =
    selected_alone c.args.query.now c.args.item.now c.args.columns.now c.requires.open_stage.knowledge c.args.certain c.requires.alone c.args.filter.now.truths c.requires.judged
    c.column-known.result.now c.args.column c.requires.column c.column-known.ensures.column c.column-known.ensures.rows c.certain_if.result
    (c.certain_if.ensures.may ∙ ap (λ s. s.may) c.lend.ensures ∙ c.select.ensures.may)
    (must_if c.args.certain _ _ _ _ _ c.certain_if.ensures.must (ap (λ s. s.must) c.lend.ensures ∙ c.select.ensures.must) c.requires.masks.none) in
    c.tally.ensures.tally ∙ ap (λ (i : Aggregate). tally_of i.kind (pairs_in c.column-known.result.now c.certain_if.result)) c.item.view_is ∙ ap (tally_of c.args.item.now.kind) (sym same)

pub returns-else-nullable-clause-tally : goal.returns-else-nullable-clause-tally
returns-else-nullable-clause-tally c =
    let same =
    selected_alone c.args.query.now c.args.item.now c.args.columns.now c.requires.open_stage.knowledge c.args.certain c.requires.alone c.args.filter.now.truths c.requires.judged
    c.column-known.result.now c.args.column c.requires.column c.column-known.ensures.column c.column-known.ensures.rows c.certain_if-else-nullable.result
    (c.certain_if-else-nullable.ensures.may ∙ c.select_all.ensures.may)
    (must_if c.args.certain _ _ _ _ _ c.certain_if-else-nullable.ensures.must c.select_all.ensures.must c.requires.masks.none) in
    c.tally-else-nullable.ensures.tally ∙ ap (λ (i : Aggregate). tally_of i.kind (pairs_in c.column-known.result.now c.certain_if-else-nullable.result)) c.item.view_is ∙ ap (tally_of c.args.item.now.kind) (sym same)

-- ---- what is kept

pub tally-requires-clause-kept : goal.tally-requires-clause-kept
tally-requires-clause-kept c = sums_at c.args.columns.now c.args.item.now c.args.kept.now c.args.column c.column-known.result.now c.requires.column c.column-known.ensures.column c.requires.kept

pub tally-requires-else-nullable-clause-kept : goal.tally-requires-else-nullable-clause-kept
tally-requires-else-nullable-clause-kept c = sums_at c.args.columns.now c.args.item.now c.args.kept.now c.args.column c.column-known.result.now c.requires.column c.column-known.ensures.column c.requires.kept

pub returns-then-nullable-clause-kept : goal.returns-then-nullable-clause-kept
returns-then-nullable-clause-kept c = sums_of c.args.columns.now c.args.item.now c.tally.new.kept c.args.column c.column-known.result.now c.requires.column c.column-known.ensures.column c.tally.ensures.kept

pub returns-else-nullable-clause-kept : goal.returns-else-nullable-clause-kept
returns-else-nullable-clause-kept c =
    sums_of c.args.columns.now c.args.item.now c.tally-else-nullable.new.kept c.args.column c.column-known.result.now c.requires.column c.column-known.ensures.column c.tally-else-nullable.ensures.kept
