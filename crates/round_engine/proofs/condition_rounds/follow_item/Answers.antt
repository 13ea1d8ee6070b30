use Rattle.round_engine.specs.Engines.{stage_of}
use Rattle.round_engine.proofs.SeenRows.{room_as_before}
use Rattle.round_engine.proofs.condition_rounds.follow_item.Goals as goal

pub copy_counts-requires-clause-room : goal.copy_counts-requires-clause-room
copy_counts-requires-clause-room c = room_as_before (stage_of c.args.query.now c.args.columns.now) c.args.item.now c.args.rows.column c.args.seen.now.must c.args.seen.now.may c.args.running.now c.requires.before
