use Rattle.std.proofs.Common.{sym, ap, ◌∙◌, subst}
use Rattle.daq_table.specs.Tables.{frame_of}
use Rattle.known_column.specs.KnownTables.{IsKnownTable, frame_at, table_of}
use Rattle.known_column.proofs.Several.{unread_is, unread_kept}
use Rattle.known_column.proofs.known_columns.KnownColumns.open.Goals as goal

pub invariant_of-result : goal.invariant_of-result
invariant_of-result c =
    let frame = frame_of c.args.head.now in
    subst IsKnownTable (sym (ap (table_of frame.rows) c.in_ok-columns.ensures ∙ unread_is frame c.args.places.now)) (unread_kept (frame_at frame c.args.places.now) c.args.head.now.is_head.few_rows)

pub returns : goal.returns
returns c = let frame = frame_of c.args.head.now in ap (table_of frame.rows) c.in_ok-columns.ensures ∙ unread_is frame c.args.places.now
