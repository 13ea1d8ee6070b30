use Rattle.std.proofs.Common.{◌<◌, sym, subst, ◌∙◌}
use Rattle.round_engine.specs.Cells.{cells_in}
use Rattle.round_engine.specs.Narrowness.{is_narrow_cell}
use Rattle.round_engine.proofs.CellNarrow.{cells_more, narrow_cells, not_all_cells}
use Rattle.round_engine.proofs.groups.Groups.is_narrow.Goals as goal

pub loop-cell-preserved : goal.loop-cell-preserved
loop-cell-preserved c = λ stage are.
    cells_more (is_narrow_cell c.args.near.width stage) c.loop-cell.cell (c.loop-cell.invariant stage are) (sym (c.is_narrow_cell.ensures stage are) ∙ c.if-not-is_narrow_cell.false)

pub returns-then-not-is_narrow_cell : goal.returns-then-not-is_narrow_cell
returns-then-not-is_narrow_cell c = λ stage are.
    sym (narrow_cells c.args.near stage are.grouped ∙ not_all_cells (is_narrow_cell c.args.near.width stage) c.loop-cell.cell (cells_in stage) (subst (λ n. c.loop-cell.cell < n) (c.count-cell-end.ensures stage are) c.loop-cell-test.true) (sym (c.is_narrow_cell.ensures stage are) ∙ c.if-not-is_narrow_cell.true))
