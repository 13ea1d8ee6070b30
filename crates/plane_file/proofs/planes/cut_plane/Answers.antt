-- A plane of digits is cut from the numbers of the column.
use Rattle.std.proofs.Common.{◌≡◌, suc, ◌-◌, map, [], get_or, arith, subst, sym, ap, ◌∙◌, IsTrue, IsFalse}
use Rattle.daq_table.specs.Tables.{ends_at, frame_of, width}
use Rattle.plane_kernels.specs.Bytes.{bytes_of_rows}
use Rattle.query_model.specs.Knowledge.{bit_at}
use Rattle.known_column.proofs.CutPlanes.{declared, digits_left, number_plane, plain_plane}
use Rattle.plane_file.specs.ByteDigits.{plane_of_digit}
use Rattle.plane_file.proofs.planes.cut_plane.Goals as goal

pub returns-then-not-head-clause-bytes : goal.returns-then-not-head-clause-bytes
returns-then-not-head-clause-bytes c =
    let table = c.args.table.now in
    let at = rw c.as_slice.ensures at c.index-as_slice-column.is in
    let found = declared table.head c.head.result.now c.args.column c.index-as_slice-column.result c.head.ensures.head c.requires.column at in
    let ends = ends_at (frame_of table.head) c.args.column in
    let cells = get_or table.cells c.args.column [] in
    c.cut_digit.ensures.bytes ∙ ap (λ d. bytes_of_rows (plane_of_digit d c.args.number c.column.result.now)) (c.width-digits.ensures.digits ∙ sym (ap width found))
    ∙ ap (λ l. bytes_of_rows (plane_of_digit (width ends) c.args.number l)) c.column.ensures
    ∙ ap bytes_of_rows (sym (plain_plane ends c.args.number cells (subst (λ e. IsFalse e.nullable) (sym found) c.if-not-head.true)))

pub returns-else-number-eq0-clause-bytes : goal.returns-else-number-eq0-clause-bytes
returns-else-number-eq0-clause-bytes c =
    let table = c.args.table.now in
    let at = rw c.as_slice.ensures at c.index-as_slice-column.is in
    let found = declared table.head c.head.result.now c.args.column c.index-as_slice-column.result c.head.ensures.head c.requires.column at in
    let ends = ends_at (frame_of table.head) c.args.column in
    let cells = get_or table.cells c.args.column [] in
    let nullable = subst (λ e. IsTrue e.nullable) (sym found) c.if-not-head.false in
    let place = c.args.number - 1 in
    let number : c.args.number ≡ suc place = omega (arith, c.if-number-eq0.false) in
    c.cut_digit-else-number-eq0.ensures.bytes
    ∙ ap (λ d. bytes_of_rows (plane_of_digit d place c.column-else-number-eq0.result.now)) (c.width-digits.ensures.digits ∙ sym (ap width found))
    ∙ ap (λ l. bytes_of_rows (plane_of_digit (width ends) place l)) c.column-else-number-eq0.ensures
    ∙ ap bytes_of_rows (sym (number_plane ends place cells nullable (digits_left ends c.args.number nullable number c.requires.number)) ∙ ap (λ j. map (bit_at ends j) cells) (sym number))
