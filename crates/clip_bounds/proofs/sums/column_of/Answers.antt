use Rattle.std.proofs.Common.{length, ap, arith}
use Rattle.known_column.specs.KnownTables.{KnownTable}
use Rattle.round_engine.specs.Stages.{IsOpenStage}
use Rattle.clip_bounds.proofs.Engines.{clip_there}
use Rattle.clip_bounds.proofs.sums.column_of.Goals as goal

pub column-known-requires : goal.column-known-requires
column-known-requires c =
    let stage = c.args.engine.now in
    let opened : IsOpenStage stage = record { open_query = c.query-query.ensures.open_query; knowledge = c.query-query.ensures.knowledge } in
    let same = ap (λ (table : KnownTable). length table.frame.columns) c.columns.ensures in
    omega (arith, same, c.from.ensures, clip_there stage c.args.item c.args.clip opened c.requires.item c.requires.clip)

pub returns-clause-there : goal.returns-clause-there
returns-clause-there c =
    let stage = c.args.engine.now in
    let opened : IsOpenStage stage = record { open_query = c.query-query.ensures.open_query; knowledge = c.query-query.ensures.knowledge } in
    clip_there stage c.args.item c.args.clip opened c.requires.item c.requires.clip
