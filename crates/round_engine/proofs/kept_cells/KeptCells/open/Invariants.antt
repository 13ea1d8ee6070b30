use Rattle.std.specs.List.{All}
use Rattle.round_engine.specs.KeptCells.{MayMove}
use Rattle.round_engine.proofs.kept_cells.KeptCells.open.Given as goal

abbrev pub invariant-loop-cell : goal.invariant-loop-cell
invariant-loop-cell l = All (MayMove l.known) l.sums.items
