use Rattle.std.proofs.Common.{◌≡◌, length, ◌+◌, ◌*◌}
use Rattle.interval_calc.specs.Intervals.{interval_of}
use Rattle.query_model.specs.Knowledge.{ranges_of}
use Rattle.query_model.specs.Queries.{term_of}
use Rattle.query_model.specs.Truths.{span_of}
use Rattle.row_values.proofs.BlockRows.{HoldsBelow}
use Rattle.row_values.proofs.block_values.read_wide.Given as goal

abbrev pub invariant-loop-i : goal.invariant-loop-i
invariant-loop-i l = record {
  count : length l.spans ≡ 64;
  rows : HoldsBelow (λ r span. interval_of span ≡ span_of (term_of l.expr) (ranges_of l.columns.frame l.columns.known (64 * l.number + r))) l.i l.spans;
}
