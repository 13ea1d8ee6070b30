use Rattle.std.proofs.Common.{◌≡◌, ◌*◌, min, []}
use Rattle.aggregates.specs.Tallies.{tally_of}
use Rattle.query_model.specs.declared.query.ItemKind.TheVariants.{Sum}
use Rattle.query_model.specs.Bounds.{pairs_below}
use Rattle.row_values.specs.BlockSums.{HasBlocks}
use Rattle.round_engine.proofs.row_sums.sum_rows.Given as goal

abbrev pub invariant-loop-number : goal.invariant-loop-number
invariant-loop-number l = record {
  held : HasBlocks l.number l.tally;
  tally : l.tally ≡ tally_of Sum (pairs_below l.query l.item [] l.columns.frame l.columns.known (min (64 * l.number) l.columns.frame.rows));
}
