use Rattle.std.proofs.Common.{◌≡◌, ℕ, ◌+◌, ◌<◌, Bool, false, true, not, List, [], ◌∷◌, ◌++◌, length, map, take, get_or, slice_get, Some, sym, ap, ◌∙◌, arith}
use Rattle.std.proofs.lemmas.List.{get_or-map, length-map, take_more}
use Rattle.known_column.proofs.RowDigits.{read_bit}
use Rattle.known_column.specs.Columns.{is_possible, rows_where}
use Rattle.plane_file.proofs.column_cells.marks_of.Goals as goal

-- the mark of a row behind those before it
mark_more : (bits marks items : List Bool) (row : ℕ) (bit : Bool) → row < length bits → marks ≡ take row (map not bits) → slice_get bits row ≡ Some bit → items ≡ marks ++ not bit ∷ [] →
    items ≡ take (row + 1) (map not bits)
mark_more bits marks items row bit lt before here all =
    let there : get_or (map not bits) row true ≡ not bit = get_or-map not bits row false true lt ∙ ap not (read_bit bits row bit here) in
    all ∙ ap (λ l. l ++ not bit ∷ []) before ∙ ap (λ b. take row (map not bits) ++ b ∷ []) (sym there) ∙ sym (take_more (map not bits) row true (omega (arith, lt, length-map bits not)))

pub loop-row-preserved : goal.loop-row-preserved
loop-row-preserved c =
    let known = c.args.known.now in
    let bits = rows_where is_possible known in
    let lt : c.loop-row.row < length bits = omega (arith, c.loop-row-test.true, c.rows-row-end.ensures.rows, length-map known.known.prefixes (is_possible known.ends known.known.read)) in
    mark_more bits c.loop-row.marks.items _ c.loop-row.row c.get.result lt c.loop-row.invariant (ap (λ (l : List Bool). slice_get l c.loop-row.row) (sym c.possible.ensures) ∙ c.get.ensures) c.in_ok-push.ensures.items
