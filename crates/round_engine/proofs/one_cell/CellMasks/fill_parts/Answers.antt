use Rattle.std.proofs.Common.{◌==◌, rules, length, ap, ◌∙◌, arith}
use Rattle.std.proofs.lemmas.List.{length-map}
use Rattle.query_model.specs.Answers.{groups_of}
use Rattle.round_engine.specs.Engines.{stage_of}
use Rattle.round_engine.proofs.CellKept.{parted_rows}
use Rattle.round_engine.proofs.CellRows.{cells_fit}
use Rattle.round_engine.proofs.FewCells.{is_part, part_more}
use Rattle.round_engine.proofs.one_cell.CellMasks.fill_parts.Goals as goal
use Rattle.round_engine.proofs.one_cell.CellMasks.fill_parts.Goals.{in-Column, in_default}

pub begin-requires : goal.begin-requires
begin-requires c =
    let stage = stage_of c.args.query.now c.args.columns.now in
    let counted = (c.cells_tell_keys.ensures c.args.columns.now.frame c.args.columns.now.known (groups_of c.args.query.now.shape) c.args.cells.now c.requires.parted.cells_are).count in
    omega (arith, counted, c.count.ensures, cells_fit stage c.requires.open_stage, c.requires.room.room)

pub bounds-single-cell : goal.bounds-single-cell
bounds-single-cell c =
    let stage = stage_of c.args.query.now c.args.columns.now in
    let counted = (c.cells_tell_keys.ensures c.args.columns.now.frame c.args.columns.now.known (groups_of c.args.query.now.shape) c.args.cells.now c.requires.parted.cells_are).count in
    omega (arith, counted, c.count-cell-end.ensures, c.loop-cell-test.true, cells_fit stage c.requires.open_stage, c.requires.parted.room)

pub column_part-tally-requires-clause-part : goal.column_part-tally-requires-clause-part
column_part-tally-requires-clause-part c =
    is_part (stage_of c.args.query.now c.args.columns.now) c.args.cells.now c.args.single.now c.loop-cell.cell c.rows_of-within.result.now c.requires.parted c.requires.open_stage.knowledge c.cells_tell_keys.ensures c.rows_of-within.ensures

pub column_part-tally-requires-clause-masks : goal.column_part-tally-requires-clause-masks
column_part-tally-requires-clause-masks c = c.loop-cell.invariant.masks

pub count_part-tally-requires : goal.count_part-tally-requires
count_part-tally-requires c = record {
  open_stage = c.requires.open_stage;
  judged = c.requires.judged;
  counted = search rules;
  part = is_part (stage_of c.args.query.now c.args.columns.now) c.args.cells.now c.args.single.now c.loop-cell.cell c.rows_of-within.result.now c.requires.parted c.requires.open_stage.knowledge c.cells_tell_keys.ensures c.rows_of-within.ensures;
}

pub loop-cell-preserved : goal.loop-cell-preserved
loop-cell-preserved c =
    record {
      masks = elim c.match-item.branch [
        | in-Column w ↦ rw w.self-is w.column_part-tally.ensures.masks
        | in_default w ↦ rw w.self-is c.loop-cell.invariant.masks
      ];
      kept = elim c.match-item.branch [
        | in-Column w ↦ rw w.kept-is w.column_part-tally.ensures.kept
        | in_default w ↦ rw w.kept-is c.loop-cell.invariant.kept
      ];
      parts =
          part_more c.args.query.now c.args.item.now c.args.columns.now c.loop-cell.cell c.loop-cell.running c.set.new.self _ c.requires.open_stage.knowledge c.loop-cell.invariant.parts c.set.ensures
          (elim c.match-item.branch [
            | in-Column w ↦ rw w.tally-is w.column_part-tally.ensures.tally
            | in_default w ↦ rw w.tally-is w.count_part-tally.ensures
          ]);
    }

pub column_part-tally-requires-clause-within : goal.column_part-tally-requires-clause-within
column_part-tally-requires-clause-within c =
    let cells = c.args.cells.now in
    ap length c.rows_of-within.ensures ∙ length-map cells.cells (λ n. n == c.loop-cell.cell) ∙ parted_rows (stage_of c.args.query.now c.args.columns.now) cells c.args.single.now c.requires.parted
