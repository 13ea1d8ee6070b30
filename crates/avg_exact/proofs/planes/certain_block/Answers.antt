use Rattle.std.proofs.Common.{◌-◌, ◌*◌, ◌&&◌, min, length, ap, sym, ◌∙◌, arith}
use Rattle.std.specs.Simd.Lanes.{zip2}
use Rattle.kleene_filter.specs.Filters.{is_certain}
use Rattle.known_column.specs.Columns.{is_sure, rows_where}
use Rattle.aggregates.specs.Selections.{block_of}
use Rattle.avg_exact.specs.Blocks.{column_of}
use Rattle.avg_exact.proofs.RowLists.{certain_in_block, length-block, lent_column, long_marks, long_mask}
use Rattle.avg_exact.proofs.planes.certain_block.Goals as goal

pub of_mask-must-requires : goal.of_mask-must-requires
of_mask-must-requires c =
    let long = long_mask c.args.engine.now c.args.item c.args.column c.requires.over is_certain c.must.result.now c.filter.result.now.truths c.must.ensures c.filter.ensures in
    omega (arith, long, c.requires.block)

pub and-requires : goal.and-requires
and-requires c =
    let stage = c.args.engine.now in
    let long = long_mask stage c.args.item c.args.column c.requires.over is_certain c.must.result.now c.filter.result.now.truths c.must.ensures c.filter.ensures in
    let column = lent_column stage c.args.item c.args.column c.requires.over c.columns.result.now c.column.result.now c.columns.ensures c.column.ensures.column in
    let marks = c.sure.ensures ∙ ap (rows_where is_sure) column in
    let wide = long_marks stage c.args.item c.args.column c.requires.over (is_sure (column_of stage c.args.column).ends (column_of stage c.args.column).known.read) c.sure.result.now marks in
    ap length c.of_mask-sure.ensures ∙ length-block c.args.block c.sure.result.now ∙ ap (λ n. min 512 (n - 512 * c.args.block)) (wide ∙ sym long)
    ∙ sym (length-block c.args.block c.must.result.now) ∙ sym (ap length c.of_mask-must.ensures)

pub returns : goal.returns
returns c =
    let stage = c.args.engine.now in
    let column = lent_column stage c.args.item c.args.column c.requires.over c.columns.result.now c.column.result.now c.columns.ensures c.column.ensures.column in
    let marks = c.sure.ensures ∙ ap (rows_where is_sure) column in
    c.and.ensures ∙ ap (λ l. zip2 (λ a b. a && b) l c.of_mask-sure.result) c.of_mask-must.ensures ∙ ap (zip2 (λ a b. a && b) (block_of c.args.block c.must.result.now)) c.of_mask-sure.ensures
    ∙ certain_in_block stage c.args.item c.args.column c.requires.over c.args.block c.must.result.now c.sure.result.now c.filter.result.now.truths c.must.ensures c.filter.ensures marks
