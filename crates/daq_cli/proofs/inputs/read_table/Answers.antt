-- Why each step of reading a table stops it, and what it comes to.
use Rattle.std.proofs.Common.{sym, subst}
use Rattle.std.proofs.lemmas.Result.{err_from_is_err_and}
use Rattle.outer_world.specs.Whole.{ReadsToEnd}
use Rattle.daq_cli.specs.Inputs.{most_bytes}
use Rattle.daq_cli.proofs.Causes.{schema_shown, table_shown}
use Rattle.daq_cli.proofs.InputCauses.{stops_at_schema, stops_at_table, stops_reading, table_read}
use Rattle.daq_cli.proofs.inputs.read_table.Goals as goal

pub returns-in_err-schema-clause-refused : goal.returns-in_err-schema-clause-refused
returns-in_err-schema-clause-refused g c =
    let schema = c.args.schema.now in
    let p = err_from_is_err_and c.from_residual.result c.from_residual.ensures.1 in
    rw p.1 (stops_at_schema schema (g.S.Source.state c.args.input.now) p.0 (schema_shown schema c.in_err-schema.field-0.0 p.0 c.in_err-schema.ensures.err p.2))

pub returns-in_err-bytes-clause-refused : goal.returns-in_err-bytes-clause-refused
returns-in_err-bytes-clause-refused g c =
    let p = err_from_is_err_and c.from_residual-in_err-bytes.result c.from_residual-in_err-bytes.ensures.1 in
    rw p.1 (stops_reading c.args.schema.now c.in_ok-schema.schema.items c.in_ok-schema.ensures.items
    (g.S.Source.state c.args.input.now) (g.S.Source.state c.read_all.new.src) c.in_err-bytes.field-0.0 p.0 c.in_err-bytes.ensures.stopped p.2)

pub returns-in_err-table-clause-refused : goal.returns-in_err-table-clause-refused
returns-in_err-table-clause-refused g c =
    let bytes = c.deref.result.now in
    let read = subst (ReadsToEnd (g.S.Source.state c.args.input.now) (g.S.Source.state c.read_all.new.src) most_bytes) (sym c.deref.ensures.value) c.in_ok-bytes.ensures.read in
    let p = err_from_is_err_and c.from_residual-in_err-table.result c.from_residual-in_err-table.ensures.1 in
    rw p.1 (stops_at_table c.args.schema.now c.in_ok-schema.schema.items c.in_ok-schema.ensures.items
    (g.S.Source.state c.args.input.now) (g.S.Source.state c.read_all.new.src) bytes read p.0
    (table_shown c.in_ok-schema.schema.items bytes c.in_err-table.field-0.0 p.0 read.within c.in_err-table.ensures.refused p.2))

pub returns-clause-read : goal.returns-clause-read
returns-clause-read g c =
    let bytes = c.deref.result.now in
    let read = subst (ReadsToEnd (g.S.Source.state c.args.input.now) (g.S.Source.state c.read_all.new.src) most_bytes) (sym c.deref.ensures.value) c.in_ok-bytes.ensures.read in
    table_read c.args.schema.now c.in_ok-schema.schema.items c.in_ok-schema.ensures.items (g.S.Source.state c.args.input.now) (g.S.Source.state c.read_all.new.src) bytes read
    c.in_ok-table.table (record { small = read.within; is_table = c.in_ok-table.ensures.table })
