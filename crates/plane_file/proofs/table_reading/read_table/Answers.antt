use Rattle.std.proofs.Common.{◌∙◌, map, vec_items, sym, subst}
use Rattle.std.proofs.lemmas.Result.{err_from_is_err_and}
use Rattle.daq_table.specs.Tables.{AreMarks, IsTable, cells_from, frame_of}
use Rattle.daq_table.specs.declared.table_head.Head.{Head}
use Rattle.daq_table.proofs.SameTables.{same_contents}
use Rattle.plane_file.specs.TableReading.{ReadsTable, RefusesTable}
use Rattle.plane_file.specs.declared.table_fault.TableReadFault.{TableReadFault}
use Rattle.plane_file.proofs.AllColumns.{columns_marks, columns_table}
use Rattle.plane_file.proofs.WholeTable.{columns_refused, open_refused, table_read}
use Rattle.plane_file.proofs.table_reading.read_table.Goals as goal

pub returns-in_err-file-clause-refused : goal.returns-in_err-file-clause-refused
returns-in_err-file-clause-refused g c =
    let old = g.P.Store.state c.args.store.now in
    let new = g.P.Store.state c.open.new.store in
    let p = err_from_is_err_and c.from_residual.result c.from_residual.ensures.1 in
    rw p.1 (subst (λ (why : TableReadFault). RefusesTable old new why) (sym p.2) (open_refused old new c.in_err-file.field-0.0 c.in_err-file.ensures.refused))

pub returns-in_err-numbers-clause-refused : goal.returns-in_err-numbers-clause-refused
returns-in_err-numbers-clause-refused g c =
    let old = g.P.Store.state c.args.store.now in
    let new = g.P.Store.state c.read_columns.new.store in
    let p = err_from_is_err_and c.from_residual-in_err-numbers.result c.from_residual-in_err-numbers.ensures.1 in
    rw p.1 (subst (λ (why : TableReadFault). RefusesTable old new why) (sym p.2)
    (columns_refused old (g.P.Store.state c.open.new.store) new c.in_ok-file.file c.in_ok-file.ensures.opened c.open.ensures.same c.in_err-numbers.field-0.0 c.in_err-numbers.ensures.stopped))

pub new-requires-clause-is_table : goal.new-requires-clause-is_table
new-requires-clause-is_table g c =
    let numbers = map vec_items c.in_ok-numbers.numbers.items in
    let marks = map vec_items c.in_ok-numbers.nulls.items in
    subst (λ (h : Head). IsTable (frame_of h) (cells_from numbers marks)) (sym c.into_head.ensures.head) (columns_table c.in_ok-file.file.head numbers marks c.in_ok-numbers.ensures.read.make)

pub new-requires-clause-are_marks : goal.new-requires-clause-are_marks
new-requires-clause-are_marks g c =
    let numbers = map vec_items c.in_ok-numbers.numbers.items in
    let marks = map vec_items c.in_ok-numbers.nulls.items in
    subst (λ (h : Head). AreMarks (frame_of h) numbers marks) (sym c.into_head.ensures.head) (columns_marks c.in_ok-file.file.head numbers marks c.in_ok-numbers.ensures.read.make)

pub returns-clause-read : goal.returns-clause-read
returns-clause-read g c =
    let old = g.P.Store.state c.args.store.now in
    let new = g.P.Store.state c.read_columns.new.store in
    let numbers = map vec_items c.in_ok-numbers.numbers.items in
    let marks = map vec_items c.in_ok-numbers.nulls.items in
    let made = same_contents c.new.result (record { head = c.in_ok-file.file.head; cells = cells_from numbers marks }) (c.new.ensures.head ∙ c.into_head.ensures.head) c.new.ensures.cells in
    subst (ReadsTable old new) (sym made)
    (table_read old (g.P.Store.state c.open.new.store) new c.in_ok-file.file c.in_ok-file.ensures.opened c.open.ensures.same numbers marks c.into_head.ensures.opened c.in_ok-numbers.ensures.read)
