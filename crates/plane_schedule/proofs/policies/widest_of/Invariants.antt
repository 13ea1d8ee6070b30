use Rattle.std.proofs.Common.{◌≡◌, ◌<◌, ◌≤◌, ℕ, slice_index}
use Rattle.plane_schedule.specs.Choices.{IsUnread, IsOf, outlook_of}
use Rattle.plane_schedule.proofs.policies.widest_of.Given as goal

abbrev pub invariant-loop-column : goal.invariant-loop-column
invariant-loop-column l = record {
  found : 0 < l.most → IsOf (outlook_of l.progress) l.role l.best × IsUnread (outlook_of l.progress) l.best × (slice_index l.progress.unread l.best ≡ l.most);
  widest : (d : ℕ) → d < l.column → IsOf (outlook_of l.progress) l.role d → IsUnread (outlook_of l.progress) d → slice_index l.progress.unread d ≤ l.most;
  first : (d : ℕ) → d < l.best → IsOf (outlook_of l.progress) l.role d → IsUnread (outlook_of l.progress) d → slice_index l.progress.unread d < l.most;
}
