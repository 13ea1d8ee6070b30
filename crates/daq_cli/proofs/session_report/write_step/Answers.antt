-- The blocks are written in order.
use Rattle.std.proofs.Common.{arith, length}
use Rattle.table_rounds.specs.Steps.{places_read}
use Rattle.daq_cli.specs.SessionReport.{block_at}
use Rattle.daq_cli.proofs.Numbered.{all_texts, text_after, text_cut, there_below}
use Rattle.daq_cli.proofs.StepBlocks.{as_many}
use Rattle.daq_cli.proofs.session_report.write_step.Goals as goal

pub returns-in_err-write_moved-clause-blocks : goal.returns-in_err-write_moved-clause-blocks
returns-in_err-write_moved-clause-blocks g c = λ queries bits reads after last.
    let long = as_many c.args.head.now c.args.plan.now queries bits reads c.args.session.now after in
    let (q, there) = there_below queries c.loop-query.query (omega (arith, long)) in
    text_cut (block_at c.args.head.now c.args.plan.now bits (places_read queries reads) (length reads)) _ _ _ queries c.loop-query.query q _ _ _ there
    (c.loop-query.invariant.text queries bits reads after last) c.from_residual.ensures.0 (c.in_err-write_moved.ensures.block queries bits reads q after there last)

pub returns-clause-blocks : goal.returns-clause-blocks
returns-clause-blocks g c = λ queries bits reads after last.
    let long = as_many c.args.head.now c.args.plan.now queries bits reads c.args.session.now after in
    all_texts (block_at c.args.head.now c.args.plan.now bits (places_read queries reads) (length reads)) _ queries c.loop-query.query _ _ (omega (arith, long))
    (c.loop-query.invariant.text queries bits reads after last)

pub loop-query-preserved : goal.loop-query-preserved
loop-query-preserved g c = record {
  text = λ queries bits reads after last.
      let long = as_many c.args.head.now c.args.plan.now queries bits reads c.args.session.now after in
      let (q, there) = there_below queries c.loop-query.query (omega (arith, long)) in
      text_after (block_at c.args.head.now c.args.plan.now bits (places_read queries reads) (length reads)) _ _ _ queries c.loop-query.query q _ _ _ there
      (c.loop-query.invariant.text queries bits reads after last) (c.in_ok-write_moved.ensures.block queries bits reads q after there last);
  later = (let before = c.loop-query.invariant.later in let after = c.in_ok-write_moved.ensures.cause.later in omega (arith, before, after));
}
