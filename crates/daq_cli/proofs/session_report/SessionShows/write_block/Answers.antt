-- The blocks of the step at which the session stands. Later steps change none, and they show the planes that were read alone.
use Rattle.table_rounds.proofs.Standing.{are_columns}
use Rattle.table_rounds.specs.Steps.{queries_of}
use Rattle.daq_cli.proofs.StepBlocks.{same_blocks_at, session_blocks_stay}
use Rattle.daq_cli.proofs.session_report.SessionShows.write_block.Goals as goal

pub returns-clause-block : goal.returns-clause-block
returns-clause-block g c = λ first bits reads after last_is. c.write_step.ensures.blocks (queries_of first) bits reads after last_is

pub returns-clause-stays : goal.returns-clause-stays
returns-clause-stays g c = λ first bits. session_blocks_stay c.args.head.now c.args.plan.now (queries_of first) bits

pub returns-clause-agrees : goal.returns-clause-agrees
returns-clause-agrees g c = λ first a b reads round after same h.
    let head = c.args.head.now in
    let plan = c.args.plan.now in
    let queries = queries_of first in
    same_blocks_at head plan queries a b reads (are_columns plan queries head a reads after.rounds) same round h
