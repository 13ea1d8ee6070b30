use Rattle.std.proofs.Common.{◌≡◌, ◌∙◌, refl, sym, ap, subst, arith}
use Rattle.std.proofs.lemmas.Result.{err_from_is_err_and}
use Rattle.daq_table.specs.Tables.{ends_at, frame_of, planes}
use Rattle.plane_file.specs.ColumnReading.{ReadsPlanes, StopsInColumn}
use Rattle.plane_file.specs.TableReading.{IsPlane}
use Rattle.plane_file.specs.declared.table_fault.TableReadFault.{TableReadFault}
use Rattle.known_column.proofs.CutPlanes.{declared}
use Rattle.plane_file.proofs.ColumnSteps.{column_starves_first, next_read, next_stops, same_on, same_store, unread}
use Rattle.plane_file.proofs.column_reading.read_known.Goals as goal

pub returns-in_err-known-clause-stopped : goal.returns-in_err-known-clause-stopped
returns-in_err-known-clause-stopped g c =
    let p = err_from_is_err_and c.from_residual.result c.from_residual.ensures.1 in
    rw (p.1, p.2) (column_starves_first c.args.file.now.head c.args.column (g.P.Store.state c.args.store.now))

pub loop-number-init : goal.loop-number-init
loop-number-init g c =
    let head = c.args.file.now.head in
    let store = g.P.Store.state c.args.store.now in
    let at = rw c.as_slice.ensures at c.index-as_slice-column.is in
    let ends = declared head c.head.result.now c.args.column c.index-as_slice-column.result c.head.ensures.head c.requires.column at in
    record {
      rows = refl;
      same = same_store store;
      so_far = unread head c.args.column store c.in_ok-known.known _ _ c.in_ok-known.ensures ends (c.rows.ensures ∙ c.requires.rows);
    }

pub returns-in_err-read_next-clause-stopped : goal.returns-in_err-read_next-clause-stopped
returns-in_err-read_next-clause-stopped g c =
    let head = c.args.file.now.head in
    let old = g.P.Store.state c.args.store.now in
    let new = g.P.Store.state c.read_next.new.store in
    let at = rw c.as_slice.ensures at c.index-as_slice-column.is in
    let ends = declared head c.head.result.now c.args.column c.index-as_slice-column.result c.head.ensures.head c.requires.column at in
    let is : IsPlane head c.args.column c.loop-number.number = record { is_column = c.requires.column; is_plane = omega (arith, c.loop-number-test.true, c.planes-number-end.ensures.all, ap planes ends) } in
    let p = err_from_is_err_and c.from_residual-in_err-read_next.result c.from_residual-in_err-read_next.ensures.1 in
    rw p.1 (subst (λ (why : TableReadFault). StopsInColumn head c.args.column old new why) (sym p.2)
    (next_stops head c.args.column c.loop-number.number old (g.P.Store.state c.loop-number.store) new c.loop-number.known is c.loop-number.invariant.same c.loop-number.invariant.so_far
    c.in_err-read_next.field-0.0 c.in_err-read_next.ensures.stopped))

pub loop-number-preserved : goal.loop-number-preserved
loop-number-preserved g c =
    let inv = c.loop-number.invariant in
    record {
      rows = c.read_next.ensures.rows ∙ inv.rows;
      same = same_on _ _ _ inv.same c.read_next.ensures.same;
      so_far = next_read c.args.file.now.head c.args.column c.loop-number.number _ _ _ c.loop-number.known c.read_next.new.known inv.same inv.so_far c.in_ok-read_next.ensures.read;
    }

pub returns-clause-read : goal.returns-clause-read
returns-clause-read g c =
    let head = c.args.file.now.head in
    let at = rw c.as_slice.ensures at c.index-as_slice-column.is in
    let ends = declared head c.head.result.now c.args.column c.index-as_slice-column.result c.head.ensures.head c.requires.column at in
    let all : c.loop-number.number ≡ planes (ends_at (frame_of head) c.args.column) = omega (arith, c.loop-number-test.false, c.loop-number.auto.number-end, c.planes-number-end.ensures.all, ap planes ends) in
    subst (λ n. ReadsPlanes head c.args.column n (g.P.Store.state c.args.store.now) (g.P.Store.state c.loop-number.store) c.loop-number.known) all c.loop-number.invariant.so_far
