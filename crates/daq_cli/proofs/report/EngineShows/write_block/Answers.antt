-- The block of the round at which the query stands. Later reads change none, and it shows the planes that were read alone.
use Rattle.std.proofs.Common.{◌∙◌, ◌<◌, IfSome, ap, length, subst, sym}
use Rattle.daq_report.specs.Blocks.{block_text}
use Rattle.daq_table.specs.Tables.{frame_of}
use Rattle.outer_world.specs.Whole.{Writes}
use Rattle.round_engine.specs.Progresses.{planes_read}
use Rattle.round_engine.specs.Stages.{Stage}
use Rattle.table_rounds.proofs.Reached.{columns_of_part}
use Rattle.table_rounds.specs.Rounds.{column_read}
use Rattle.daq_cli.proofs.Blocks.{query_blocks_agree, query_blocks_stay}
use Rattle.daq_cli.proofs.Loops.{if_some}
use Rattle.daq_cli.proofs.report.EngineShows.write_block.Goals as goal

pub returns-clause-block : goal.returns-clause-block
returns-clause-block g c = λ first bits reads after last_is.
    let head = c.args.head.now in
    let plan = c.args.plan.now in
    let stage = c.args.self.now in
    let round = length reads in
    subst (Writes c.write_round.result (g.K.Sink.state c.args.out.now) (g.K.Sink.state c.write_round.new.out))
    (ap (λ (s : Stage). block_text head plan.listing plan.extras s (planes_read s.known) c.args.last) c.view.ensures
    ∙ ap (λ n. block_text head plan.listing plan.extras stage n c.args.last) (c.rounds_are_counted.ensures plan first.query (frame_of head) bits reads stage after)
    ∙ ap (block_text head plan.listing plan.extras stage round) last_is ∙ ap (λ s. block_text head plan.listing plan.extras s round (column_read reads round)) after.known)
    c.write_round.ensures

pub returns-clause-stays : goal.returns-clause-stays
returns-clause-stays g c = λ first bits. query_blocks_stay c.args.head.now c.args.plan.now first.query bits

pub returns-clause-agrees : goal.returns-clause-agrees
returns-clause-agrees g c = λ first a b reads round after same h. query_blocks_agree c.args.head.now c.args.plan.now first.query a b reads same round

pub write_round-requires-clause-last : goal.write_round-requires-clause-last
write_round-requires-clause-last g c =
    let stage = c.args.self.now in
    let long = ap (λ f. length f.columns) (sym c.requires.fits.same) ∙ columns_of_part stage.query (frame_of c.args.head.now) in
    subst (λ (s : Stage). IfSome c.args.last (λ column. column < length s.query.columns)) (sym c.view.ensures) (if_some c.args.last _ _ (λ column below. subst (λ n. column < n) long below) c.requires.last)
