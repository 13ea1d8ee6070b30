use Rattle.std.proofs.Common.{◌+◌, ◌*◌, ◌/◌, ℕ, List, length, sym, ap, ◌∙◌, arith, subst, inr}
use Rattle.std.proofs.lemmas.Result.{err_from_is_err_and}
use Rattle.daq_table.specs.declared.head.ColumnHead.{ColumnHead}
use Rattle.plane_file.specs.Bytes.{AreBytes}
use Rattle.plane_file.proofs.HeaderFacts.{declared, front_stop, has_numbers, is_front_of, is_opened, front_long, wrong_size}
use Rattle.plane_file.specs.Checks.{columns_in}
use Rattle.plane_file.specs.Format.{plane_count}
use Rattle.plane_file.specs.Fronts.{AreColumns}
use Rattle.plane_file.specs.Opening.{Opened}
use Rattle.plane_file.proofs.fronts.read_head.Goals as goal

pub read_columns-requires : goal.read_columns-requires
read_columns-requires c =
    let numbers = has_numbers c.args.front.now c.requires.passed in
    record { few = omega (arith, numbers.heads, c.requires.whole); header = omega (arith, c.requires.whole) }

pub returns-in_err-columns-clause-err : goal.returns-in_err-columns-clause-err
returns-in_err-columns-clause-err c =
    let p = err_from_is_err_and c.from_residual.result c.from_residual.ensures.1 in
    rw (p.1, p.2) (front_stop c.args.front.now c.number32_at.result c.args.size c.in_err-columns.field-0.0 c.number32_at.ensures c.in_err-columns.ensures.err)

pub returns-then-size-wanted-clause-err : goal.returns-then-size-wanted-clause-err
returns-then-size-wanted-clause-err c =
    let front = c.args.front.now in
    let columns = c.in_ok-columns.columns.items in
    let read : AreColumns (columns_in front) front columns = subst (λ (n : ℕ). AreColumns n front columns) c.number32_at.ensures c.in_ok-columns.ensures.ok in
    let planes = c.planes_in.ensures.count ∙ ap plane_count c.deref.ensures.value in
    let wanted = declared front columns c.number64_at-rows.result c.planes_in.result read c.number64_at-rows.ensures planes in
    inr (wrong_size front c.args.size (length front + 8 * ((c.number64_at-rows.result + 63) / 64) * c.planes_in.result) read.passed wanted c.if-size-wanted.true)

pub new-requires-2-clause-opened : goal.new-requires-2-clause-opened
new-requires-2-clause-opened c =
    let front = c.args.front.now in
    let columns = c.in_ok-columns.columns.items in
    let read : AreColumns (columns_in front) front columns = subst (λ (n : ℕ). AreColumns n front columns) c.number32_at.ensures c.in_ok-columns.ensures.ok in
    let listed : AreColumns (columns_in front) front c.new.result = rw c.new.ensures read in
    rw c.number32_at-2.ensures (is_opened front _ c.requires listed c.number64_at-rows.ensures)

pub new-requires-2-clause-place : goal.new-requires-2-clause-place
new-requires-2-clause-place c =
    let front = c.args.front.now in
    let columns = c.in_ok-columns.columns.items in
    let read : AreColumns (columns_in front) front columns = subst (λ (n : ℕ). AreColumns n front columns) c.number32_at.ensures c.in_ok-columns.ensures.ok in
    let listed : AreColumns (columns_in front) front c.new.result = rw c.new.ensures read in
    front_long front c.new.result c.requires listed

pub returns-clause-ok : goal.returns-clause-ok
returns-clause-ok c =
    let front = c.args.front.now in
    let columns = c.in_ok-columns.columns.items in
    let fits : AreBytes front = λ i. omega (arith, c.type_inv.front i) in
    let read : AreColumns (columns_in front) front columns = subst (λ (n : ℕ). AreColumns n front columns) c.number32_at.ensures c.in_ok-columns.ensures.ok in
    let file = c.new-2.result in
    let made = c.new-2.ensures in
    let here = ap (λ (f : Opened). f.head.columns) made ∙ c.new.ensures in
    let listed : AreColumns (columns_in front) front file.head.columns = subst (λ (cs : List ColumnHead). AreColumns (columns_in front) front cs) (sym here) read in
    let planes = c.planes_in.ensures.count ∙ ap plane_count c.deref.ensures.value in
    let wanted = declared front columns c.number64_at-rows.result c.planes_in.result read c.number64_at-rows.ensures planes in
    is_front_of front c.args.size file fits c.requires listed (ap (λ (f : Opened). f.head.rows) made ∙ c.number64_at-rows.ensures) (ap (λ (f : Opened). f.version) made ∙ c.number32_at-2.ensures) (c.if-size-wanted.false ∙ wanted)
