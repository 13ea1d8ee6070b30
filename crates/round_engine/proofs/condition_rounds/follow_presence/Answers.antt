use Rattle.std.proofs.Common.{refl, sym, subst}
use Rattle.query_model.specs.Answers.{every_row}
use Rattle.round_engine.specs.CellAnswers.{HasRoom}
use Rattle.round_engine.specs.Engines.{stage_of}
use Rattle.round_engine.specs.MovedCells.{WereMoved}
use Rattle.round_engine.proofs.SeenRows.{count_as_before, room_as_before, were_moved}
use Rattle.round_engine.proofs.condition_rounds.follow_presence.Goals as goal

pub move_item-requires-clause-before : goal.move_item-requires-clause-before
move_item-requires-clause-before c =
    subst (λ i. WereMoved (stage_of c.args.query.now c.args.columns.now) i c.args.seen.now.must c.args.seen.now.may c.args.presence.now) (sym c.every_row-item.ensures)
    (were_moved (stage_of c.args.query.now c.args.columns.now) every_row c.args.rows.column c.args.seen.now.must c.args.seen.now.may c.args.presence.now c.requires.before refl)

pub move_item-requires-clause-count : goal.move_item-requires-clause-count
move_item-requires-clause-count c = count_as_before (stage_of c.args.query.now c.args.columns.now) every_row c.args.rows.column c.args.seen.now.must c.args.seen.now.may c.args.presence.now c.requires.before

pub move_item-requires-clause-room : goal.move_item-requires-clause-room
move_item-requires-clause-room c =
    subst (λ i. HasRoom (stage_of c.args.query.now c.args.columns.now) i c.args.presence.now) (sym c.every_row-item.ensures)
    (room_as_before (stage_of c.args.query.now c.args.columns.now) every_row c.args.rows.column c.args.seen.now.must c.args.seen.now.may c.args.presence.now c.requires.before)
