use Rattle.std.proofs.Common.{List, sym, subst, ◌∙◌, ap, length}
use Rattle.daq_table.specs.declared.schema_column.SchemaColumn.{SchemaColumn}
use Rattle.csv_load.specs.States.{AreComplete, AreStored, State}
use Rattle.csv_load.proofs.LoadFacts.{all_complete, table_is}
use Rattle.csv_load.proofs.loading.load.Goals as goal

pub table_of-requires-clause-complete : goal.table_of-requires-clause-complete
table_of-requires-clause-complete c =
    subst (λ (states : List State). AreComplete c.in_ok-rows.rows states) (sym c.deref_mut.ensures.value)
    (all_complete c.args.bytes.now c.args.schema.now.items c.args.limits.now c.in_ok-rows.rows c.in_ok-rows.columns.items c.in_ok-rows.ensures.ok)

pub returns-clause-table : goal.returns-clause-table
returns-clause-table c =
    let kept = subst (λ (columns : List SchemaColumn). AreStored columns c.deref_mut.result.now c.in_ok-table.table.head.columns c.in_ok-table.table.cells) c.args.schema.now.kept c.in_ok-table.ensures.columns in
    let stored = rw c.deref_mut.ensures.value at kept in
    table_is c.args.bytes.now c.args.schema.now.items c.args.limits.now c.in_ok-rows.rows c.in_ok-rows.columns.items c.in_ok-table.table c.in_ok-rows.ensures.ok c.in_ok-table.ensures.rows stored

pub table_of-requires-clause-wide : goal.table_of-requires-clause-wide
table_of-requires-clause-wide c =
    ap length c.deref_mut.ensures.value ∙ c.in_ok-rows.ensures.ok.states_are.wide ∙ ap length (sym c.args.schema.now.kept)
