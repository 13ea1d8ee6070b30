-- The cells are written in order.
use Rattle.std.proofs.Common.{◌≡◌, ◌<◌, ℕ, ◌+◌, List, arith}
use Rattle.round_engine.specs.Cells.{absence_in_cell, cells_in}
use Rattle.daq_report.specs.Groups.{cell_text}
use Rattle.daq_report.proofs.Sequences.{text_after, text_cut}
use Rattle.daq_report.proofs.groups.write_groups.Goals as goal

pub returns-in_err-write_cell : goal.returns-in_err-write_cell
returns-in_err-write_cell g c =
    let stage = c.args.engine.now in
    let text : ℕ → List ℕ = λ cell. cell_text c.args.head.now stage c.args.columns.now cell (absence_in_cell stage cell) in
    let at : 0 + c.loop-cell.cell ≡ c.loop-cell.cell = omega arith in
    let within : c.loop-cell.cell < cells_in stage = omega (arith, c.cells-cell-end.ensures, c.loop-cell-test.true) in
    text_cut _ _ _ text 0 c.loop-cell.cell c.loop-cell.cell (cells_in stage) _ _ _ at within c.loop-cell.invariant c.from_residual.ensures.0 c.in_err-write_cell.ensures

pub loop-cell-preserved : goal.loop-cell-preserved
loop-cell-preserved g c =
    let stage = c.args.engine.now in
    let text : ℕ → List ℕ = λ cell. cell_text c.args.head.now stage c.args.columns.now cell (absence_in_cell stage cell) in
    let at : 0 + c.loop-cell.cell ≡ c.loop-cell.cell = omega arith in
    text_after _ _ _ text 0 c.loop-cell.cell c.loop-cell.cell _ _ _ at c.loop-cell.invariant c.in_ok-write_cell.ensures
