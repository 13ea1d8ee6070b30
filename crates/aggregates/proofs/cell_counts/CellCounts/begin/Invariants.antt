use Rattle.std.proofs.Common.{◌≡◌, ◌<◌, ℕ, [], length, Some, slice_get}
use Rattle.query_model.specs.declared.query.ItemKind.TheVariants.{Count}
use Rattle.aggregates.specs.Tallies.{tally_of}
use Rattle.aggregates.proofs.cell_counts.CellCounts.begin.Given as goal

abbrev pub invariant-loop-cell : goal.invariant-loop-cell
invariant-loop-cell l = record {
  count : length l.self-inside.counts.items ≡ length l.initial.self-inside.counts.items;
  done : (k : ℕ) → k < l.cell → slice_get l.self-inside.counts.items k ≡ Some (tally_of Count []);
}
