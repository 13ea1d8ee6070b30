use Rattle.std.proofs.Common.{◌≡◌, ◌<◌, ◌≤◌, ℤ, length, map, vec_items, [], get_or, subst, sym, ap, ◌∙◌, arith, IsFalse, Some, to_z, of_z, pos, negsuc, SFits}
use lib.Signed.{mag}
use Rattle.std.proofs.lemmas.List.{get_or_read}
use Rattle.std.proofs.lemmas.Int.{ints, to_z-of_z}
use Rattle.std.specs.Int.{w64}
use Rattle.daq_table.specs.Tables.{Contents, cell_at, ends_at, frame_of, is_null_cell, spread, value_of}
use Rattle.daq_table.proofs.TableCells.{cell_is, cell_within, declared_within, ends_read, list_read, list_within, row_within}
use Rattle.daq_table.proofs.table.Table.cell.Goals as goal

-- a number of 64 bits, by the size that its type tells
fits_word : (z : ℤ) → mag z < 9223372036854775808 → SFits w64 z
fits_word (pos n) h = omega (arith, ints)
fits_word (negsuc n) h = omega (arith, ints)

pub index-requires : goal.index-requires
index-requires c =
    let t = c.self.inside in
    let column = subst (λ (t : Contents). c.args.column < length t.cells) (sym c.self.view_is) c.requires.column in
    omega (arith, list_within t.head t.cells.items t.nulls.items c.self.invariant.0 c.args.column column)

pub index-requires-2 : goal.index-requires-2
index-requires-2 c =
    let t = c.self.inside in
    let column = subst (λ (t : Contents). c.args.column < length t.cells) (sym c.self.view_is) c.requires.column in
    let row = subst (λ (t : Contents). c.args.row < t.head.rows) (sym c.self.view_is) c.requires.row in
    let there = list_within t.head t.cells.items t.nulls.items c.self.invariant.0 c.args.column column in
    let read = list_read t.cells.items c.args.column c.index.result.now there c.index.ensures in
    let within = row_within t.head t.cells.items t.nulls.items c.self.invariant.0 c.args.column c.args.row column row in
    omega (arith, ap length read, within, c.index.result.now.ok.0)

pub value_above-requires : goal.value_above-requires
value_above-requires c =
    let t = c.self.inside in
    let column = subst (λ (t : Contents). c.args.column < length t.cells) (sym c.self.view_is) c.requires.column in
    let row = subst (λ (t : Contents). c.args.row < t.head.rows) (sym c.self.view_is) c.requires.row in
    let value = subst (λ (t : Contents). IsFalse (is_null_cell (cell_at t.cells c.args.column c.args.row))) (sym c.self.view_is) c.requires.value in
    let there = list_within t.head t.cells.items t.nulls.items c.self.invariant.0 c.args.column column in
    let read = list_read t.cells.items c.args.column c.index.result.now there c.index.ensures in
    let within = row_within t.head t.cells.items t.nulls.items c.self.invariant.0 c.args.column c.args.row column row in
    let at = rw c.as_slice.ensures at c.index-as_slice-column.is in
    let ends_are = ends_read t.head.columns c.args.column c.index-as_slice-column.result (declared_within t.head t.cells.items t.nulls.items c.self.invariant.0 c.args.column column) at ∙ sym c.ends-ends.ensures.all in
    let number : get_or (get_or (map vec_items t.cells.items) c.args.column []) c.args.row 0 ≡ c.index-2.result.now =
    ap (λ us. get_or us c.args.row 0) read ∙ sym (get_or_read (vec_items c.index.result.now) c.args.row c.index-2.result.now (omega (arith, ap length read, within)) c.index-2.ensures 0) in
    subst (λ n. n ≤ spread c.ends-ends.result) number (subst (λ ends. get_or (get_or (map vec_items t.cells.items) c.args.column []) c.args.row 0 ≤ spread ends) ends_are
    (cell_within t.head t.cells.items t.nulls.items c.self.invariant.0 c.args.column c.args.row column row value))

pub returns : goal.returns
returns c =
    let t = c.self.inside in
    let column = subst (λ (t : Contents). c.args.column < length t.cells) (sym c.self.view_is) c.requires.column in
    let row = subst (λ (t : Contents). c.args.row < t.head.rows) (sym c.self.view_is) c.requires.row in
    let value = subst (λ (t : Contents). IsFalse (is_null_cell (cell_at t.cells c.args.column c.args.row))) (sym c.self.view_is) c.requires.value in
    let there = list_within t.head t.cells.items t.nulls.items c.self.invariant.0 c.args.column column in
    let read = list_read t.cells.items c.args.column c.index.result.now there c.index.ensures in
    let within = row_within t.head t.cells.items t.nulls.items c.self.invariant.0 c.args.column c.args.row column row in
    let at = rw c.as_slice.ensures at c.index-as_slice-column.is in
    let ends_are = ends_read t.head.columns c.args.column c.index-as_slice-column.result (declared_within t.head t.cells.items t.nulls.items c.self.invariant.0 c.args.column column) at ∙ sym c.ends-ends.ensures.all in
    let number : get_or (get_or (map vec_items t.cells.items) c.args.column []) c.args.row 0 ≡ c.index-2.result.now =
    ap (λ us. get_or us c.args.row 0) read ∙ sym (get_or_read (vec_items c.index.result.now) c.args.row c.index-2.result.now (omega (arith, ap length read, within)) c.index-2.ensures 0) in
    subst (λ (t : Contents). Some (to_z w64 (of_z w64 c.value_above.result)) ≡ value_of (ends_at (frame_of t.head) c.args.column) (cell_at t.cells c.args.column c.args.row)) c.self.view_is
    (ap (λ z. Some z) (to_z-of_z w64 c.value_above.result (fits_word c.value_above.result c.value_above.type_inv)) ∙ c.value_above.ensures ∙ sym (ap (λ ends. value_of ends (Some c.index-2.result.now)) ends_are) ∙ sym (ap (λ n. value_of (ends_at (frame_of t.head) c.args.column) (Some n)) number)
    ∙ sym (ap (value_of (ends_at (frame_of t.head) c.args.column)) (cell_is t.head t.cells.items t.nulls.items c.self.invariant.0 c.args.column c.args.row column row value)))
