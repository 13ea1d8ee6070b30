use Rattle.std.proofs.Common.{◌≡◌, ℕ, ◌+◌, length, ap, subst, add-one, arith}
use Rattle.std.proofs.lemmas.Result.{IfErr-weaker}
use Rattle.daq_table.specs.Schemas.{kept_places}
use Rattle.csv_load.specs.States.{HasRoomFor, RefusesAt, RefusesRow}
use Rattle.csv_load.specs.declared.fault.TableFault.{TableFault}
use Rattle.csv_load.proofs.RefusalFacts.{field_refused}
use Rattle.csv_load.proofs.record.take_row.Goals as goal

pub returns-clause-err : goal.returns-clause-err
returns-clause-err c =
    let items = c.args.schema.now.items in
    let fields = c.args.fields.now in
    let room : HasRoomFor c.args.limits.now c.args.rows (length c.args.columns.now) = record { row = omega (arith, c.if-entry-limits.false); cells = rw (← add-one c.args.rows) c.if-count-limits.false } in
    let full : length fields ≡ length items = omega (arith, c.len.ensures, c.if-len-want.false, ap length c.as_slice-want.ensures) in
    IfErr-weaker c.take_fields.result (RefusesAt (kept_places items) c.args.limits.now.names (c.args.rows + 1) c.args.columns.now fields) (RefusesRow items c.args.limits.now c.args.rows c.args.columns.now fields)
    (λ (e : TableFault) h. field_refused items c.args.limits.now c.args.rows c.args.columns.now fields e room full
    (subst (λ (n : ℕ). RefusesAt (kept_places items) c.args.limits.now.names n c.args.columns.now fields e) (add-one c.args.rows) h)) c.take_fields.ensures.err
