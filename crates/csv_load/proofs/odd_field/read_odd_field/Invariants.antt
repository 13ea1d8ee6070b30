use Rattle.csv_load.proofs.OddFacts.{ReadsOn}
use Rattle.csv_load.proofs.odd_field.read_odd_field.Given as goal

abbrev pub invariant-loop-at : goal.invariant-loop-at
invariant-loop-at l = ReadsOn l.text l.start l.within l.field.items l.at
