use Rattle.std.proofs.Common.{◌≡◌}
use Rattle.csv_load.specs.Lines.{record_at}
use Rattle.csv_load.proofs.lines.line_start.Given as goal

abbrev pub invariant-loop-at : goal.invariant-loop-at
invariant-loop-at l = record_at l.text l.from ≡ record_at l.text l.at
