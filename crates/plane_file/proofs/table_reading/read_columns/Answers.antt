use Rattle.std.proofs.Common.{◌+◌, ◌<◌, ◌∙◌, ◌∷◌, [], Bool, ℕ, false, length, map, vec_items, sym, ap, subst, arith, Vec, Global}
use Rattle.std.proofs.lemmas.List.{length-replicate, map-append}
use Rattle.std.proofs.lemmas.Result.{err_from_is_err_and}
use Rattle.daq_table.specs.declared.table_head.Head.{Head}
use Rattle.plane_file.specs.ColumnReading.{StopsInColumns}
use Rattle.plane_file.specs.declared.table_fault.TableReadFault.{TableReadFault}
use Rattle.plane_file.proofs.ColumnSteps.{same_on, same_store}
use Rattle.plane_file.proofs.TableSteps.{column_read, column_stops, columns_starve, none_read}
use Rattle.plane_file.proofs.table_reading.read_columns.Goals as goal

pub returns-in_err-plane-clause-stopped : goal.returns-in_err-plane-clause-stopped
returns-in_err-plane-clause-stopped g c =
    let store = g.P.Store.state c.args.store.now in
    let p = err_from_is_err_and c.from_residual.result c.from_residual.ensures.1 in
    rw (p.1, p.2) (columns_starve c.args.file.now.head 0 store store [] [] (omega arith) (none_read c.args.file.now.head store))

pub loop-column-init : goal.loop-column-init
loop-column-init g c =
    let store = g.P.Store.state c.args.store.now in
    record {
      rows = ap length c.in_ok-plane.ensures ∙ length-replicate _ false ∙ ap (λ (h : Head). h.rows) c.head-head.ensures.head;
      same = same_store store;
      so_far = rw (c.new-numbers.ensures.items, c.new-nulls.ensures.items) (none_read c.args.file.now.head store);
    }

pub returns-in_err-cells-clause-stopped : goal.returns-in_err-cells-clause-stopped
returns-in_err-cells-clause-stopped g c =
    let head = c.args.file.now.head in
    let old = g.P.Store.state c.args.store.now in
    let new = g.P.Store.state c.read_column.new.store in
    let inside : c.loop-column.column < length head.columns = omega (arith, c.loop-column-test.true, ap length c.as_slice-column-end.ensures, ap (λ (h : Head). length h.columns) c.head-head.ensures.head) in
    let p = err_from_is_err_and c.from_residual-in_err-cells.result c.from_residual-in_err-cells.ensures.1 in
    rw p.1 (subst (λ (why : TableReadFault). StopsInColumns head old new why) (sym p.2)
    (column_stops head c.loop-column.column old (g.P.Store.state c.loop-column.store) new (map vec_items c.loop-column.numbers.items) (map vec_items c.loop-column.nulls.items) inside
    c.loop-column.invariant.same c.loop-column.invariant.so_far c.in_err-cells.field-0.0 c.in_err-cells.ensures.stopped))

pub returns-in_err-push-clause-stopped : goal.returns-in_err-push-clause-stopped
returns-in_err-push-clause-stopped g c =
    let head = c.args.file.now.head in
    let old = g.P.Store.state c.args.store.now in
    let new = g.P.Store.state c.read_column.new.store in
    let inside : c.loop-column.column < length head.columns = omega (arith, c.loop-column-test.true, ap length c.as_slice-column-end.ensures, ap (λ (h : Head). length h.columns) c.head-head.ensures.head) in
    let p = err_from_is_err_and c.from_residual-in_err-push.result c.from_residual-in_err-push.ensures.1 in
    rw (p.1, p.2) (columns_starve head (c.loop-column.column + 1) old new _ _ (omega (arith, inside))
    (column_read head c.loop-column.column old (g.P.Store.state c.loop-column.store) new (map vec_items c.loop-column.numbers.items) (map vec_items c.loop-column.nulls.items) c.in_ok-cells.cells.items c.in_ok-cells.marks.items
    inside c.loop-column.invariant.same c.loop-column.invariant.so_far c.in_ok-cells.ensures.read))

pub returns-in_err-push-2-clause-stopped : goal.returns-in_err-push-2-clause-stopped
returns-in_err-push-2-clause-stopped g c =
    let head = c.args.file.now.head in
    let old = g.P.Store.state c.args.store.now in
    let new = g.P.Store.state c.read_column.new.store in
    let inside : c.loop-column.column < length head.columns = omega (arith, c.loop-column-test.true, ap length c.as_slice-column-end.ensures, ap (λ (h : Head). length h.columns) c.head-head.ensures.head) in
    let p = err_from_is_err_and c.from_residual-in_err-push-2.result c.from_residual-in_err-push-2.ensures.1 in
    rw (p.1, p.2) (columns_starve head (c.loop-column.column + 1) old new _ _ (omega (arith, inside))
    (column_read head c.loop-column.column old (g.P.Store.state c.loop-column.store) new (map vec_items c.loop-column.numbers.items) (map vec_items c.loop-column.nulls.items) c.in_ok-cells.cells.items c.in_ok-cells.marks.items
    inside c.loop-column.invariant.same c.loop-column.invariant.so_far c.in_ok-cells.ensures.read))

pub loop-column-preserved : goal.loop-column-preserved
loop-column-preserved g c =
    let head = c.args.file.now.head in
    let old = g.P.Store.state c.args.store.now in
    let new = g.P.Store.state c.read_column.new.store in
    let inside : c.loop-column.column < length head.columns = omega (arith, c.loop-column-test.true, ap length c.as_slice-column-end.ensures, ap (λ (h : Head). length h.columns) c.head-head.ensures.head) in
    let view = λ (k : Vec ℕ Global). k.items in
    let marked = λ (k : Vec Bool Global). k.items in
    record {
      rows = c.read_column.ensures.rows ∙ c.loop-column.invariant.rows;
      same = same_on _ _ _ c.loop-column.invariant.same c.read_column.ensures.same;
      so_far = rw (
        c.in_ok-push.ensures.items,
        c.in_ok-push-2.ensures.items,
        map-append view c.loop-column.numbers.items (c.in_ok-cells.cells ∷ []),
        map-append marked c.loop-column.nulls.items (c.in_ok-cells.marks ∷ []),
      ) (column_read head c.loop-column.column old (g.P.Store.state c.loop-column.store) new (map vec_items c.loop-column.numbers.items) (map vec_items c.loop-column.nulls.items) c.in_ok-cells.cells.items c.in_ok-cells.marks.items
          inside c.loop-column.invariant.same c.loop-column.invariant.so_far c.in_ok-cells.ensures.read);
    }
