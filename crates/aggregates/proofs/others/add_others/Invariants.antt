use Rattle.std.proofs.Common.{◌*◌, ◌≤◌}
use Rattle.aggregates.specs.RowSums.{AreSumsBelow}
use Rattle.aggregates.specs.Widening.{widening_rows}
use Rattle.aggregates.proofs.others.add_others.Given as goal

abbrev pub invariant-loop-block : goal.invariant-loop-block
invariant-loop-block l = AreSumsBelow l.known (512 * l.block) (widening_rows l.end l.known l.may l.must) l.sums × (l.sums.numbers ≤ l.block * 309485009821345068724781056)
