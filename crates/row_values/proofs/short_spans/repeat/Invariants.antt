use Rattle.std.proofs.Common.{◌≡◌}
use Rattle.interval_calc.specs.Intervals.{only}
use Rattle.row_values.specs.ShortSpans.{interval_of}
use Rattle.row_values.proofs.BlockRows.{HoldsBelow}
use Rattle.row_values.proofs.short_spans.repeat.Given as goal

abbrev pub invariant-loop-i : goal.invariant-loop-i
invariant-loop-i l = HoldsBelow (λ r span. interval_of span ≡ only l.number) l.i l.spans
