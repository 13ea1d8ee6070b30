use Rattle.std.proofs.Common.{◌∙◌, ◌++◌, ◌∷◌, [], take, sym, ap}
use Rattle.std.proofs.lemmas.List.{take_more}
use Rattle.daq_table.specs.declared.schema_column.SchemaColumn.{SchemaColumn}
use Rattle.csv_load.proofs.RowFacts.{states_push}
use Rattle.csv_load.proofs.reading.empty_columns.Goals as goal

pub loop-column-preserved : goal.loop-column-preserved
loop-column-preserved c =
    let more = states_push (take c.loop-column.column-index c.args.schema.now) c.column-item.result c.loop-column.columns.items c.loop-column.invariant in
    let longer = take_more c.args.schema.now c.loop-column.column-index c.column-item.result c.loop-column-test.true ∙ ap (λ (x : SchemaColumn). take c.loop-column.column-index c.args.schema.now ++ x ∷ []) (sym c.column-item.is) in
    let pushed = c.in_ok-push.ensures.items in
    rw (longer, pushed, c.new.ensures) more
