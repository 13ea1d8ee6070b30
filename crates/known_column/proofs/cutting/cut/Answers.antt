-- A plane is cut from the numbers of the column, or from its marks of null.
use Rattle.std.proofs.Common.{◌≡◌, suc, ◌-◌, ◌<◌, map, not, length, [], get_or, arith, subst, sym, ap, ◌∙◌, IsTrue, IsFalse}
use Rattle.std.proofs.lemmas.List.{length-map}
use Rattle.daq_table.specs.Tables.{ends_at, ends_of, frame_of, width}
use Rattle.query_model.specs.Knowledge.{bit_at}
use Rattle.known_column.proofs.CutPlanes.{declared, digit, digits_left, plain_plane, null_plane, number_plane}
use Rattle.known_column.proofs.cutting.cut.Goals as goal

pub returns-then-not-head-clause-bits : goal.returns-then-not-head-clause-bits
returns-then-not-head-clause-bits c =
    let table = c.args.table.now in
    let at = rw c.as_slice.ensures at c.index-as_slice-column.is in
    let ends = declared table.head c.head.result.now c.args.column c.index-as_slice-column.result c.head.ensures.head c.requires.column at in
    let cells = get_or table.cells c.args.column [] in
    c.transpose.ensures ∙ ap (λ d. map (digit d c.args.number) c.column.result.now) (c.width-digits.ensures.digits ∙ sym (ap width ends))
    ∙ ap (map (digit (width (ends_at (frame_of table.head) c.args.column)) c.args.number)) c.column.ensures
    ∙ sym (plain_plane (ends_at (frame_of table.head) c.args.column) c.args.number cells (subst (λ e. IsFalse e.nullable) (sym ends) c.if-not-head.true))

pub returns-then-number-eq0-clause-bits : goal.returns-then-number-eq0-clause-bits
returns-then-number-eq0-clause-bits c =
    let table = c.args.table.now in
    let at = rw c.as_slice.ensures at c.index-as_slice-column.is in
    let ends = declared table.head c.head.result.now c.args.column c.index-as_slice-column.result c.head.ensures.head c.requires.column at in
    let cells = get_or table.cells c.args.column [] in
    let nullable = subst (λ e. IsTrue e.nullable) (sym ends) c.if-not-head.false in
    let declared_in : c.args.column < length (frame_of table.head).columns = omega (arith, c.requires.column, length-map table.head.columns ends_of) in
    c.validity.ensures ∙ ap (map not) (c.nulls.ensures.nullable nullable)
    ∙ sym (null_plane (ends_at (frame_of table.head) c.args.column) cells nullable
    (λ r lt. c.head.ensures.is_table.within c.args.column r declared_in (omega (arith, lt, c.head.ensures.is_table.rows c.args.column declared_in))))
    ∙ ap (λ j. map (bit_at (ends_at (frame_of table.head) c.args.column) j) cells) (sym c.if-number-eq0.true)

pub returns-else-number-eq0-clause-bits : goal.returns-else-number-eq0-clause-bits
returns-else-number-eq0-clause-bits c =
    let table = c.args.table.now in
    let at = rw c.as_slice.ensures at c.index-as_slice-column.is in
    let ends = declared table.head c.head.result.now c.args.column c.index-as_slice-column.result c.head.ensures.head c.requires.column at in
    let cells = get_or table.cells c.args.column [] in
    let nullable = subst (λ e. IsTrue e.nullable) (sym ends) c.if-not-head.false in
    let number : c.args.number ≡ suc (c.args.number - 1) = omega (arith, c.if-number-eq0.false) in
    c.transpose-else-number-eq0.ensures ∙ ap (λ d. map (digit d (c.args.number - 1)) c.column-else-number-eq0.result.now) (c.width-digits.ensures.digits ∙ sym (ap width ends))
    ∙ ap (map (digit (width (ends_at (frame_of table.head) c.args.column)) (c.args.number - 1))) c.column-else-number-eq0.ensures
    ∙ sym (number_plane (ends_at (frame_of table.head) c.args.column) (c.args.number - 1) cells nullable (digits_left (ends_at (frame_of table.head) c.args.column) c.args.number nullable number c.requires.number))
    ∙ ap (λ j. map (bit_at (ends_at (frame_of table.head) c.args.column) j) cells) (sym number)
