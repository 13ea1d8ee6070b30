use Rattle.std.proofs.Common.{◌≡◌, ◌<◌, length, map, vec_items, [], false, get_or, subst, sym, ap, ◌∙◌, arith, Some}
use Rattle.daq_table.specs.Tables.{Contents, cell_at, is_null_cell}
use Rattle.daq_table.proofs.TableCells.{column_there, list_read, null_there, marks_within, row_within}
use Rattle.daq_table.proofs.table.Table.is_null.Goals as goal

pub index-requires : goal.index-requires
index-requires c =
    let t = c.self.inside in
    let column = subst (λ (t : Contents). c.args.column < length t.cells) (sym c.self.view_is) c.requires.column in
    omega (arith, marks_within t.head t.cells.items t.nulls.items c.self.invariant.0 c.self.invariant.1 c.args.column column)

pub returns : goal.returns
returns c =
    let t = c.self.inside in
    let numbers = map vec_items t.cells.items in
    let nulls = map vec_items t.nulls.items in
    let column = subst (λ (t : Contents). c.args.column < length t.cells) (sym c.self.view_is) c.requires.column in
    let row = subst (λ (t : Contents). c.args.row < t.head.rows) (sym c.self.view_is) c.requires.row in
    let there = marks_within t.head t.cells.items t.nulls.items c.self.invariant.0 c.self.invariant.1 c.args.column column in
    let read = list_read t.nulls.items c.args.column c.index.result.now there c.index.ensures in
    let within = row_within t.head t.cells.items t.nulls.items c.self.invariant.0 c.args.column c.args.row column row in
    subst (λ (t : Contents). c.mark_at.result ≡ is_null_cell (cell_at t.cells c.args.column c.args.row)) c.self.view_is
    (c.mark_at.ensures ∙ ap (λ ms. get_or ms c.args.row false) (c.deref.ensures.value ∙ sym read)
    ∙ sym (ap (λ cells. is_null_cell (get_or cells c.args.row (Some 0))) (column_there numbers nulls c.args.column)
    ∙ null_there (get_or numbers c.args.column []) (get_or nulls c.args.column []) c.args.row within))
