use Rattle.std.proofs.Common.{◌≡◌, ◌==◌, length, IfSome, ap, subst, ◌∙◌, arith}
use Rattle.std.proofs.lemmas.List.{length-map}
use Rattle.aggregates.specs.Tallies.{tally_of}
use Rattle.query_model.specs.Answers.{groups_of}
use Rattle.query_model.specs.Groups.{pairs_in_cell}
use Rattle.round_engine.specs.Engines.{stage_of}
use Rattle.round_engine.proofs.CellKept.{parted_rows}
use Rattle.round_engine.proofs.CellRows.{cells_fit}
use Rattle.round_engine.proofs.FewCells.{is_part, part_more}
use Rattle.round_engine.proofs.one_cell.CellMasks.fill_counted.Goals as goal

pub begin-requires : goal.begin-requires
begin-requires c =
    let stage = stage_of c.args.query.now c.args.columns.now in
    let counted = (c.cells_tell_keys.ensures c.args.columns.now.frame c.args.columns.now.known (groups_of c.args.query.now.shape) c.args.cells.now c.requires.parted.cells_are).count in
    omega (arith, counted, c.count-total.ensures, cells_fit stage c.requires.open_stage, c.requires.room.room)

pub bounds-single-cell : goal.bounds-single-cell
bounds-single-cell c =
    let stage = stage_of c.args.query.now c.args.columns.now in
    let counted = (c.cells_tell_keys.ensures c.args.columns.now.frame c.args.columns.now.known (groups_of c.args.query.now.shape) c.args.cells.now c.requires.parted.cells_are).count in
    omega (arith, counted, c.count-total.ensures, c.loop-cell-test.true, cells_fit stage c.requires.open_stage, c.requires.parted.room)

pub counted_part-requires-clause-part : goal.counted_part-requires-clause-part
counted_part-requires-clause-part c =
    is_part (stage_of c.args.query.now c.args.columns.now) c.args.cells.now c.args.single.now c.loop-cell.cell c.rows_of-within.result.now c.requires.parted c.requires.open_stage.knowledge c.cells_tell_keys.ensures c.rows_of-within.ensures

pub counted_part-requires-clause-masks : goal.counted_part-requires-clause-masks
counted_part-requires-clause-masks c = c.loop-cell.invariant.masks

pub loop-cell-preserved : goal.loop-cell-preserved
loop-cell-preserved c = record {
  masks = c.counted_part.ensures.masks;
  kept = c.counted_part.ensures.kept;
  parts =
      part_more c.args.query.now c.args.item.now c.args.columns.now c.loop-cell.cell c.loop-cell.running c.set.new.self _ c.requires.open_stage.knowledge c.loop-cell.invariant.parts c.set.ensures
      (subst (λ o. IfSome o (λ tally. tally ≡ tally_of c.args.item.now.kind (pairs_in_cell c.args.query.now c.args.item.now c.loop-cell.cell c.args.columns.now.frame c.args.columns.now.known))) c.in-Some.is c.counted_part.ensures.tally);
}

pub counted_part-requires-clause-within : goal.counted_part-requires-clause-within
counted_part-requires-clause-within c =
    let cells = c.args.cells.now in
    ap length c.rows_of-within.ensures ∙ length-map cells.cells (λ n. n == c.loop-cell.cell) ∙ parted_rows (stage_of c.args.query.now c.args.columns.now) cells c.args.single.now c.requires.parted
