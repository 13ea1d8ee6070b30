use Rattle.std.proofs.Common.{◌<◌, ℕ}
use Rattle.plane_reads.specs.Reads.{IsNamed}
use Rattle.plane_reads.proofs.names.column_named.Given as goal

abbrev pub invariant-loop-column : goal.invariant-loop-column
invariant-loop-column l = (c : ℕ) → c < l.column → ¬ IsNamed l.query l.head c l.name
