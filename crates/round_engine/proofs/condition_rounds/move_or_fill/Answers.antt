use Rattle.round_engine.specs.Engines.{stage_of}
use Rattle.round_engine.proofs.SeenRows.{count_as_before, room_as_before}
use Rattle.round_engine.proofs.condition_rounds.move_or_fill.Goals as goal
use Rattle.round_engine.proofs.condition_rounds.move_or_fill.Goals.{then-expr_reads-via-then-expr_reads, then-expr_reads-via-else-expr_reads+then-not-move_item}

pub move_item-requires-clause-count : goal.move_item-requires-clause-count
move_item-requires-clause-count c = count_as_before (stage_of c.args.query.now c.args.columns.now) c.args.item.now c.args.rows.column c.args.seen.now.must c.args.seen.now.may c.args.running.now c.requires.before

pub move_item-requires-clause-room : goal.move_item-requires-clause-room
move_item-requires-clause-room c = room_as_before (stage_of c.args.query.now c.args.columns.now) c.args.item.now c.args.rows.column c.args.seen.now.must c.args.seen.now.may c.args.running.now c.requires.before

pub fill_item-requires-clause-room : goal.fill_item-requires-clause-room
fill_item-requires-clause-room c =
    elim c.then-expr_reads.branch [
      | then-expr_reads-via-then-expr_reads w ↦
          rw w.running-is (room_as_before (stage_of c.args.query.now c.args.columns.now) c.args.item.now c.args.rows.column c.args.seen.now.must c.args.seen.now.may c.args.running.now c.requires.before)
      | then-expr_reads-via-else-expr_reads+then-not-move_item w ↦ rw w.running-is w.move_item.ensures.room
    ]
