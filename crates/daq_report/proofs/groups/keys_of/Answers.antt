-- A cell without keys has no rows.
use Rattle.std.proofs.lemmas.Bool.{false≢true}
use Rattle.round_engine.proofs.Keys.{filled_is_legal}
use Rattle.daq_report.proofs.groups.keys_of.Goals as goal

pub unreachable-requires : goal.unreachable-requires
unreachable-requires c =
    let legal = filled_is_legal c.args.engine.now c.args.cell c.illegal_cells_are_empty.ensures c.cells_tell_keys.ensures c.query-query.ensures.knowledge c.requires.filled in
    false≢true (c.in-None.ensures.legal.1 legal)
