use Rattle.std.proofs.Common.{sym, ap, ◌∙◌}
use Rattle.aggregates.specs.Tallies.{tally_of}
use Rattle.query_model.specs.Queries.{Aggregate}
use Rattle.round_engine.specs.Selected.{pairs_in}
use Rattle.round_engine.proofs.FewCells.{part_rows, selected_part, selection_part}
use Rattle.round_engine.proofs.KeptCells.{sums_at, sums_of}
use Rattle.round_engine.proofs.OneCell.{must_if}
use Rattle.round_engine.proofs.one_cell.CellMasks.column_part.Goals as goal

pub tally-requires-clause-selection : goal.tally-requires-clause-selection
tally-requires-clause-selection c =
    selection_part c.args.query.now c.args.item.now c.args.columns.now c.args.cell c.args.certain c.args.within.now c.requires.part c.args.filter.now.truths c.requires.judged
    c.column-known.result.now c.args.column c.requires.column c.column-known.ensures.column c.column-known.ensures.rows c.certain_if.result
    (c.certain_if.ensures.may ∙ ap (λ s. s.may) c.lend.ensures ∙ c.select_within.ensures.may)
    (must_if c.args.certain _ _ _ _ _ c.certain_if.ensures.must (ap (λ s. s.must) c.lend.ensures ∙ c.select_within.ensures.must) c.requires.masks.none)

pub returns-then-leaves_out-clause-masks : goal.returns-then-leaves_out-clause-masks
returns-then-leaves_out-clause-masks c = record {
  selection =
      part_rows c.args.query.now c.args.item.now c.args.columns.now c.args.cell c.args.certain c.args.within.now c.requires.part c.args.filter.now.truths c.requires.judged
      c.column-known.result.now c.column-known.ensures.rows c.select_within.new.self c.select_within.ensures.may c.select_within.ensures.must;
  added = c.tally.ensures.room ∙ c.column-known.ensures.rows;
  none = c.requires.masks.none;
}

pub returns-then-leaves_out-clause-tally : goal.returns-then-leaves_out-clause-tally
returns-then-leaves_out-clause-tally c =
    let same =
    selected_part c.args.query.now c.args.item.now c.args.columns.now c.args.cell c.args.certain c.args.within.now c.requires.part c.args.filter.now.truths c.requires.judged
    c.column-known.result.now c.args.column c.requires.column c.column-known.ensures.column c.column-known.ensures.rows c.certain_if.result
    (c.certain_if.ensures.may ∙ ap (λ s. s.may) c.lend.ensures ∙ c.select_within.ensures.may)
    (must_if c.args.certain _ _ _ _ _ c.certain_if.ensures.must (ap (λ s. s.must) c.lend.ensures ∙ c.select_within.ensures.must) c.requires.masks.none) in
    c.tally.ensures.tally ∙ ap (λ (i : Aggregate). tally_of i.kind (pairs_in c.column-known.result.now c.certain_if.result)) c.item.view_is ∙ ap (tally_of c.args.item.now.kind) (sym same)

pub tally-requires-else-leaves_out-clause-selection : goal.tally-requires-else-leaves_out-clause-selection
tally-requires-else-leaves_out-clause-selection c =
    selection_part c.args.query.now c.args.item.now c.args.columns.now c.args.cell c.args.certain c.args.within.now c.requires.part c.args.filter.now.truths c.requires.judged
    c.column-known.result.now c.args.column c.requires.column c.column-known.ensures.column c.column-known.ensures.rows c.certain_if-else-leaves_out.result
    (c.certain_if-else-leaves_out.ensures.may ∙ c.select_part.ensures.may)
    (must_if c.args.certain _ _ _ _ _ c.certain_if-else-leaves_out.ensures.must c.select_part.ensures.must c.requires.masks.none)

pub returns-else-leaves_out-clause-tally : goal.returns-else-leaves_out-clause-tally
returns-else-leaves_out-clause-tally c =
    let same =
    selected_part c.args.query.now c.args.item.now c.args.columns.now c.args.cell c.args.certain c.args.within.now c.requires.part c.args.filter.now.truths c.requires.judged
    c.column-known.result.now c.args.column c.requires.column c.column-known.ensures.column c.column-known.ensures.rows c.certain_if-else-leaves_out.result
    (c.certain_if-else-leaves_out.ensures.may ∙ c.select_part.ensures.may)
    (must_if c.args.certain _ _ _ _ _ c.certain_if-else-leaves_out.ensures.must c.select_part.ensures.must c.requires.masks.none) in
    c.tally-else-leaves_out.ensures.tally ∙ ap (λ (i : Aggregate). tally_of i.kind (pairs_in c.column-known.result.now c.certain_if-else-leaves_out.result)) c.item.view_is ∙ ap (tally_of c.args.item.now.kind) (sym same)

-- ---- what is kept

pub tally-requires-clause-kept : goal.tally-requires-clause-kept
tally-requires-clause-kept c = sums_at c.args.columns.now c.args.item.now c.args.kept.now c.args.column c.column-known.result.now c.requires.column c.column-known.ensures.column c.requires.kept

pub tally-requires-else-leaves_out-clause-kept : goal.tally-requires-else-leaves_out-clause-kept
tally-requires-else-leaves_out-clause-kept c = sums_at c.args.columns.now c.args.item.now c.args.kept.now c.args.column c.column-known.result.now c.requires.column c.column-known.ensures.column c.requires.kept

pub returns-then-leaves_out-clause-kept : goal.returns-then-leaves_out-clause-kept
returns-then-leaves_out-clause-kept c = sums_of c.args.columns.now c.args.item.now c.tally.new.kept c.args.column c.column-known.result.now c.requires.column c.column-known.ensures.column c.tally.ensures.kept

pub returns-else-leaves_out-clause-kept : goal.returns-else-leaves_out-clause-kept
returns-else-leaves_out-clause-kept c =
    sums_of c.args.columns.now c.args.item.now c.tally-else-leaves_out.new.kept c.args.column c.column-known.result.now c.requires.column c.column-known.ensures.column c.tally-else-leaves_out.ensures.kept
