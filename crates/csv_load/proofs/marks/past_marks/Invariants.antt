use Rattle.std.proofs.Common.{◌≡◌, length}
use Rattle.csv_load.specs.Records.{without_marks}
use Rattle.csv_load.proofs.marks.past_marks.Given as goal

abbrev pub invariant-loop-rest : goal.invariant-loop-rest
invariant-loop-rest l = without_marks l.rest ≡ without_marks l.fn.bytes

abbrev pub decreases-loop-rest : goal.decreases-loop-rest
decreases-loop-rest l = length l.rest
