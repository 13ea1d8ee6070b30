-- What holds as rounds are written: what is put behind the text goes on from what was written before.
use Rattle.std.proofs.Common.{◌≡◌, ℕ, None, false, List}
use Rattle.report_parts.proofs.Courses.{rounds_left}
use Rattle.report_parts.specs.Course.{IsAhead, Moves, is_over_before}
use Rattle.report_parts.specs.Told.{Told}
use Rattle.report_parts.proofs.combination.Combination.write.Given as goal

abbrev pub invariant-rounds : goal.invariant-rounds
invariant-rounds l = record {
  task : l.self.task ≡ l.fn.self.task;
  moves : (wholes : List Told) (before : List ℕ) → IsAhead l.fn.self wholes before → Moves l.self wholes before l.fn.text.items l.text.items;
  goes : l.self.end ≡ None → is_over_before l.self.round l.self.parts ≡ false;
}

abbrev pub decreases-rounds : goal.decreases-rounds
decreases-rounds l = rounds_left l.self
