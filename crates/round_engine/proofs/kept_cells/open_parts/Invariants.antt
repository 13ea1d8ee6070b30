use Rattle.std.proofs.Common.{take}
use Rattle.round_engine.specs.KeptCells.{HaveKeptParts}
use Rattle.round_engine.proofs.kept_cells.open_parts.Given as goal

abbrev pub invariant-loop-i : goal.invariant-loop-i
invariant-loop-i l = HaveKeptParts l.columns (take l.i l.query.items) l.kept.items
