use Rattle.std.proofs.Common.{length, sym, ap, ◌∙◌, subst, arith}
use Rattle.std.specs.List.{range_with_len}
use Rattle.daq_table.specs.Tables.{Frame}
use Rattle.known_column.specs.KnownTables.{IsKnownTable, KnownTable, frame_at, table_of}
use Rattle.known_column.proofs.Several.{unread_is, unread_kept}
use Rattle.known_column.proofs.TableBlocks.{all_ends}
use Rattle.known_column.proofs.row_block.RowBlock.open.Goals as goal

pub invariant_of-result : goal.invariant_of-result
invariant_of-result c =
    let frame : Frame = record { rows = 0; columns = c.args.columns.now.frame.columns } in
    let places = range_with_len 0 (length frame.columns) in
    subst IsKnownTable (sym (ap (table_of 0) c.in_ok-blocks.ensures ∙ unread_is frame places)) (unread_kept (frame_at frame places) (omega arith))

pub returns : goal.returns
returns c =
    let frame : Frame = record { rows = 0; columns = c.args.columns.now.frame.columns } in
    let places = range_with_len 0 (length frame.columns) in
    ap (λ (t : KnownTable). t.frame.columns) (ap (table_of 0) c.in_ok-blocks.ensures ∙ unread_is frame places) ∙ all_ends frame
