-- One row more adds its cell.
use Rattle.std.proofs.Common.{[], ◌∷◌, ◌++◌, sym, ap, ◌∙◌, arith}
use Rattle.std.proofs.lemmas.List.FromFn.{map-range_with_len_more}
use Rattle.plane_bench.specs.Planes.{cell_of, cells_of}
use Rattle.plane_bench.proofs.cells.make_cells.Goals as goal

pub loop-row-preserved : goal.loop-row-preserved
loop-row-preserved c = record {
  made =
      c.in_ok-push.ensures.items ∙ ap (λ cells. cells ++ c.make_cell.result ∷ []) c.loop-row.invariant.made ∙ ap (λ cell. cells_of c.loop-row.row ++ cell ∷ []) c.make_cell.ensures
      ∙ sym (map-range_with_len_more cell_of 0 c.loop-row.row c.loop-row.row (omega arith));
}
