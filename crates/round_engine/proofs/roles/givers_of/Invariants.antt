use Rattle.std.proofs.Common.{◌≡◌, ◌<◌, ℕ, length, Some, slice_get}
use Rattle.round_engine.specs.Progresses.{gives_values}
use Rattle.round_engine.proofs.roles.givers_of.Given as goal

abbrev pub invariant-loop-column : goal.invariant-loop-column
invariant-loop-column l = record {
  places : length l.gives ≡ 16;
  told : (k : ℕ) → k < l.column → slice_get l.gives k ≡ Some (gives_values l.query k);
}
