use Rattle.std.proofs.Common.{◌≡◌, ◌<◌, ℕ, length, Some, slice_get}
use Rattle.round_engine.specs.Progresses.{role_of}
use Rattle.round_engine.proofs.roles.roles_of.Given as goal

abbrev pub invariant-loop-column : goal.invariant-loop-column
invariant-loop-column l = record {
  places : length l.roles ≡ 16;
  told : (k : ℕ) → k < l.column → slice_get l.roles k ≡ Some (role_of l.query k);
}
