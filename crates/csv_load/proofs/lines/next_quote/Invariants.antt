use Rattle.std.proofs.Common.{◌-◌, All, take, drop}
use Rattle.csv_load.specs.Lines.{JoinsQuoted}
use Rattle.csv_load.proofs.lines.next_quote.Given as goal

abbrev pub invariant-loop-at : goal.invariant-loop-at
invariant-loop-at l = All JoinsQuoted (take (l.at - l.from) (drop l.from l.text))
