use Rattle.std.proofs.Common.{◌≡◌, ◌<◌, ℕ, [], length, Some, slice_get}
use Rattle.query_model.specs.declared.query.ItemKind.TheVariants.{Sum}
use Rattle.aggregates.specs.Tallies.{tally_of}
use Rattle.aggregates.proofs.cell_sums.CellSums.begin.Given as goal

abbrev pub invariant-loop-cell : goal.invariant-loop-cell
invariant-loop-cell l = record {
  count : length l.self-inside.sums.items ≡ length l.initial.self-inside.sums.items;
  done : (k : ℕ) → k < l.cell → slice_get l.self-inside.sums.items k ≡ Some (tally_of Sum []);
}
