use Rattle.std.proofs.lemmas.List.Elements.{All-push}
use Rattle.product_sums.specs.KeptProducts.{AreKeptEnds}
use Rattle.product_sums.proofs.kept_product.open_cells.Goals as goal

pub loop-cell-preserved : goal.loop-cell-preserved
loop-cell-preserved c =
    rw c.in_ok-push.ensures.items (All-push (AreKeptEnds c.args.columns.now c.args.chosen) c.loop-cell.kept.items c.in_ok-open.field-0 c.loop-cell.invariant c.in_ok-open.ensures)
