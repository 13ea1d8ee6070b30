use Rattle.std.proofs.Common.{◌≡◌, ◌<◌, ℕ, length, slice_get}
use Rattle.aggregates.proofs.running.Running.copy_sums.Given as goal

abbrev pub invariant-loop-cell : goal.invariant-loop-cell
invariant-loop-cell l = record {
  kind : l.self-inside.kind ≡ l.initial.self-inside.kind;
  count : length l.self-inside.tallies.items ≡ length l.initial.self-inside.tallies.items;
  done : (k : ℕ) → k < l.cell → slice_get l.self-inside.tallies.items k ≡ slice_get l.sums.cells k;
}
