-- The lines are written in order.
use Rattle.std.proofs.Common.{◌≡◌, Some, sym, ap, ◌∙◌}
use Rattle.std.specs.Prelude.{slice_get}
use Rattle.std.proofs.lemmas.Option.{slice_get-get_or}
use Rattle.daq_cli.proofs.ColumnLines.{line_after, line_cut}
use Rattle.daq_cli.proofs.commands.info.write_columns.Goals as goal

pub write_column-requires : goal.write_column-requires
write_column-requires g c =
    let there : slice_get c.args.columns.now c.loop-place.place ≡ Some c.index-columns-place.result =
    slice_get-get_or c.args.columns.now c.loop-place.place c.index-columns-place.result c.loop-place-test.true ∙ ap Some (sym c.index-columns-place.is) in
    c.requires c.loop-place.place c.index-columns-place.result there

pub returns-in_err-write_column : goal.returns-in_err-write_column
returns-in_err-write_column g c =
    let there : slice_get c.args.columns.now c.loop-place.place ≡ Some c.index-columns-place.result =
    slice_get-get_or c.args.columns.now c.loop-place.place c.index-columns-place.result c.loop-place-test.true ∙ ap Some (sym c.index-columns-place.is) in
    line_cut _ _ _ c.args.columns.now c.loop-place.place c.index-columns-place.result _ _ _ there c.loop-place.invariant c.from_residual.ensures.0 c.in_err-write_column.ensures

pub loop-place-preserved : goal.loop-place-preserved
loop-place-preserved g c =
    let there : slice_get c.args.columns.now c.loop-place.place ≡ Some c.index-columns-place.result =
    slice_get-get_or c.args.columns.now c.loop-place.place c.index-columns-place.result c.loop-place-test.true ∙ ap Some (sym c.index-columns-place.is) in
    line_after _ _ _ c.args.columns.now c.loop-place.place c.index-columns-place.result _ _ _ there c.loop-place.invariant c.in_ok-write_column.ensures
