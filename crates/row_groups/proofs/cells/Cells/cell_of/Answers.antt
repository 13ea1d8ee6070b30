use Rattle.std.proofs.Common.{◌≡◌, ◌<◌, ◌^◌, Some, length, slice_get, get_or, sym, ap, subst, ◌∙◌, arith}
use Rattle.std.proofs.lemmas.Option.{get_or_from_slice_get}
use Rattle.row_groups.specs.Keeping.{first_with, told_cells}
use Rattle.row_groups.specs.Partition.{RowCells, digits_of}
use Rattle.row_groups.proofs.Held.{told_unwritten}
use Rattle.row_groups.proofs.cells.Cells.cell_of.Goals as goal

pub returns-else-row-len-clause-cell : goal.returns-else-row-len-clause-cell
returns-else-row-len-clause-cell c =
    let rows = c.self.inside.rows in
    let masks = c.self.inside.masks.items in
    let cells = c.self.inside.cells.items in
    let row = c.args.row in
    let within = subst (λ (r : RowCells). row < length r.cells) (sym c.self.view_is) c.requires in
    ap (λ (r : RowCells). slice_get r.cells row) (sym c.self.view_is) ∙ told_unwritten rows masks cells row (omega (arith, c.if-row-len.false)) within
    ∙ ap Some (sym (c.cell_in.ensures ∙ ap (first_with row) c.deref.ensures.value))

pub returns-else-row-len-clause-counted : goal.returns-else-row-len-clause-counted
returns-else-row-len-clause-counted c =
    let rows = c.self.inside.rows in
    let masks = c.self.inside.masks.items in
    let cells = c.self.inside.cells.items in
    let row = c.args.row in
    let told = told_cells rows masks cells in
    let within : row < length told = subst (λ (r : RowCells). row < length r.cells) (sym c.self.view_is) c.requires in
    let is = told_unwritten rows masks cells row (omega (arith, c.if-row-len.false)) within in
    let here : get_or told row 0 ≡ c.cell_in.result = get_or_from_slice_get told row (first_with row masks) 0 is ∙ sym (c.cell_in.ensures ∙ ap (first_with row) c.deref.ensures.value) in
    subst (λ (r : RowCells). c.cell_in.result < 2 ^ digits_of r.parts) c.self.view_is (subst (λ n. n < 2 ^ digits_of c.self.inside.parts.items) here (c.self.invariant.kept.rows row 0 within))
