use Rattle.std.proofs.Common.{◌<◌, ◌≤◌, ℕ, slice_index, IfSome, IfNone}
use Rattle.plane_schedule.specs.Choices.{IsReadFor, IsUnread, outlook_of}
use Rattle.plane_schedule.proofs.policies.least_taken_for.Given as goal

abbrev pub invariant-loop-column : goal.invariant-loop-column
invariant-loop-column l = record {
  inside : IfSome l.best (λ b. b < l.column);
  found : IfSome l.best (λ b. IsReadFor (outlook_of l.progress) l.role b × IsUnread (outlook_of l.progress) b);
  least : IfSome l.best (λ b. (d : ℕ) → d < l.column → IsReadFor (outlook_of l.progress) l.role d → IsUnread (outlook_of l.progress) d →
      slice_index l.progress.read b ≤ slice_index l.progress.read d);
  first : IfSome l.best (λ b. (d : ℕ) → d < b → IsReadFor (outlook_of l.progress) l.role d → IsUnread (outlook_of l.progress) d →
      slice_index l.progress.read b < slice_index l.progress.read d);
  none : IfNone l.best ((d : ℕ) → d < l.column → IsReadFor (outlook_of l.progress) l.role d → ¬ IsUnread (outlook_of l.progress) d);
}
