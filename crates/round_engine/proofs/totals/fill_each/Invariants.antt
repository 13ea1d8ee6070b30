use Rattle.std.proofs.Common.{◌≡◌, ◌*◌, min}
use Rattle.round_engine.specs.Engines.{stage_of}
use Rattle.round_engine.specs.Totals.{AreFilledBelow}
use Rattle.round_engine.proofs.totals.fill_each.Given as goal

abbrev pub invariant-loop-number : goal.invariant-loop-number
invariant-loop-number l = record {
  same : l.block.frame.columns ≡ l.columns.frame.columns;
  filled : AreFilledBelow (stage_of l.query l.columns) l.marks (min (64 * l.number) l.columns.frame.rows) l.runnings;
}
