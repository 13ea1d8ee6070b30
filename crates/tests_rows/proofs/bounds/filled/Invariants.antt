use Rattle.std.proofs.Common.{◌≡◌, ◌<◌, List, length}
use Rattle.query_model.specs.Bounds.{Pair}
use Rattle.aggregates.specs.Runnings.{StandsFor}
use Rattle.tests_rows.proofs.Small.{AreSmall}
use Rattle.tests_rows.proofs.bounds.filled.Given as goal

abbrev pub invariant-loop-row : goal.invariant-loop-row
invariant-loop-row l = record {
  kind : l.running.kind ≡ l.fn.kind;
  cell : 0 < length l.running.cells;
  stands : (ps : List Pair) × StandsFor l.running 0 ps × (length ps ≡ l.row-index) × AreSmall ps;
}
