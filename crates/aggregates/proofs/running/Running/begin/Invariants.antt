use Rattle.std.proofs.Common.{◌≡◌, ◌<◌, ℕ, [], length, Some, slice_get}
use Rattle.query_model.specs.declared.query.ItemKind.{ItemKind}
use Rattle.aggregates.specs.Tallies.{tally_of}
use Rattle.aggregates.proofs.running.Running.begin.Given as goal

abbrev pub invariant-loop-cell : goal.invariant-loop-cell
invariant-loop-cell l = record {
  kind : l.self-inside.kind ≡ l.initial.self-inside.kind;
  count : length l.self-inside.tallies.items ≡ length l.initial.self-inside.tallies.items;
  done : (k : ℕ) → k < l.cell → (kind : ItemKind) → slice_get l.self-inside.tallies.items k ≡ Some (tally_of kind []);
}
