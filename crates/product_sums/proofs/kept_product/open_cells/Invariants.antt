use Rattle.std.specs.List.{All}
use Rattle.product_sums.specs.KeptProducts.{AreKeptEnds}
use Rattle.product_sums.proofs.kept_product.open_cells.Given as goal

abbrev pub invariant-loop-cell : goal.invariant-loop-cell
invariant-loop-cell l = All (AreKeptEnds l.columns l.chosen) l.kept.items
