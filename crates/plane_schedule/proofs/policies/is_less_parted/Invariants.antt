use Rattle.std.proofs.Common.{◌<◌, ◌≤◌, ◌*◌, ◌^◌, ℕ, slice_index}
use Rattle.plane_schedule.specs.declared.progress.Role.TheVariants.{Group, Value}
use Rattle.plane_schedule.specs.Choices.{IsReadFor, IsUnread, outlook_of}
use Rattle.plane_schedule.proofs.policies.is_less_parted.Given as goal

abbrev pub invariant-loop-column : goal.invariant-loop-column
invariant-loop-column l = record {
  keys : (d : ℕ) → d < l.column → IsReadFor (outlook_of l.progress) Group d → IsUnread (outlook_of l.progress) d →
      l.progress.possible ≤ l.progress.unknown * 2 ^ slice_index l.progress.read d;
  values : (d : ℕ) → d < l.column → IsReadFor (outlook_of l.progress) Value d → IsUnread (outlook_of l.progress) d →
      l.progress.possible ≤ l.progress.unknown * 2 ^ slice_index l.progress.read d;
}
