-- The line of the file, and then those of its columns.
use Rattle.std.proofs.Common.{List, sym, ap, subst, ◌∙◌}
use Rattle.outer_world.proofs.Writes.{writes_both, writes_cut}
use Rattle.daq_table.specs.declared.head.ColumnHead.{ColumnHead}
use Rattle.daq_table.specs.declared.table_head.Head.{Head}
use Rattle.outer_world.specs.Whole.{Writes}
use Rattle.plane_file.specs.Format.{CanBeSpelledColumns}
use Rattle.daq_cli.specs.commands.Info.{column_lines, first_line}
use Rattle.daq_cli.proofs.commands.info.write_info.Goals as goal

pub returns-in_err-write_first : goal.returns-in_err-write_first
returns-in_err-write_first g c =
    writes_cut _ c.from_residual.result _ _ (first_line c.args.file.now) (column_lines 1 c.args.file.now.head.columns) c.from_residual.ensures.0 c.in_err-write_first.ensures

pub write_columns-requires : goal.write_columns-requires
write_columns-requires g c =
    let same = c.as_slice.ensures ∙ ap (λ (h : Head). h.columns) c.head.ensures.head in
    subst CanBeSpelledColumns (sym same) c.head.ensures.opened.spelled.each

pub returns : goal.returns
returns g c =
    let same = c.as_slice.ensures ∙ ap (λ (h : Head). h.columns) c.head.ensures.head in
    let lines = subst (λ (columns : List ColumnHead). Writes c.write_columns.result (g.K.Sink.state c.write_first.new.out) (g.K.Sink.state c.write_columns.new.out) (column_lines 1 columns)) same c.write_columns.ensures in
    writes_both _ c.write_columns.result _ _ _ (first_line c.args.file.now) (column_lines 1 c.args.file.now.head.columns) c.in_ok-write_first.ensures lines
