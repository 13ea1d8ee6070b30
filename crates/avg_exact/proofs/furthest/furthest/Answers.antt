use Rattle.std.proofs.Common.{◌≤◌, ◌+◌, ◌*◌, length, sym, subst, arith}
use Rattle.avg_exact.specs.Blocks.{column_of, part_rows}
use Rattle.avg_exact.specs.Furthest.{IsFurthestFrom}
use Rattle.avg_exact.proofs.FurthestRows.{all_rows_seen, joined, of_block}
use Rattle.avg_exact.proofs.RowLists.{long_part}
use Rattle.avg_exact.proofs.furthest.furthest.Goals as goal

pub loop-block-preserved : goal.loop-block-preserved
loop-block-preserved c =
    let stage = c.args.engine.now in
    let column = column_of stage c.args.column in
    let rows = part_rows stage c.args.item c.args.column c.args.part in
    let block = c.loop-block.block in
    subst (IsFurthestFrom c.args.toward column rows 0 (512 * (block + 1))) (sym c.further-found.ensures)
    (joined c.args.toward column rows 0 (512 * block) (512 * (block + 1)) c.loop-block.found c.furthest_in_block.result (omega arith) (omega arith) c.loop-block.invariant
    (of_block c.args.toward column rows block c.furthest_in_block.result c.furthest_in_block.ensures))

pub returns : goal.returns
returns c =
    let stage = c.args.engine.now in
    let rows = part_rows stage c.args.item c.args.column c.args.part in
    let block = c.loop-block.block in
    let whole = long_part stage c.args.item c.args.column c.requires.over c.args.part in
    let past : length rows ≤ 512 * block = omega (arith, whole, c.rows.ensures, c.loop-block-test.false, c.div_ceil-block-end.ensures) in
    all_rows_seen c.args.toward (column_of stage c.args.column) rows (512 * block) c.loop-block.found past c.loop-block.invariant
