use Rattle.std.proofs.Common.{◌-◌, ◌*◌, ◌&&◌, not, min, length, ap, sym, ◌∙◌, arith}
use Rattle.std.specs.Simd.Lanes.{zip2}
use Rattle.kleene_filter.specs.Filters.{is_possible}
use Rattle.known_column.specs.Columns.{rows_where}
use Rattle.known_column.specs.Columns as columns
use Rattle.aggregates.specs.Selections.{block_of}
use Rattle.avg_exact.specs.Blocks.{column_of, is_sure_row, rows_with}
use Rattle.avg_exact.proofs.RowLists.{length-block, lent_column, long_marks, long_mask, long_rows, uncertain_in_block}
use Rattle.std.proofs.lemmas.Simd.{length-zip2}
use Rattle.avg_exact.proofs.planes.uncertain_block.Goals as goal

pub of_mask-may-requires : goal.of_mask-may-requires
of_mask-may-requires c =
    let long = long_mask c.args.engine.now c.args.item c.args.column c.requires.over is_possible c.may.result.now c.filter.result.now.truths c.may.ensures c.filter.ensures in
    omega (arith, long, c.requires.block)

pub and-requires : goal.and-requires
and-requires c =
    let stage = c.args.engine.now in
    let long = long_mask stage c.args.item c.args.column c.requires.over is_possible c.may.result.now c.filter.result.now.truths c.may.ensures c.filter.ensures in
    let column = lent_column stage c.args.item c.args.column c.requires.over c.columns.result.now c.column.result.now c.columns.ensures c.column.ensures.column in
    let marks = c.possible.ensures ∙ ap (rows_where columns.is_possible) column in
    let wide = long_marks stage c.args.item c.args.column c.requires.over (columns.is_possible (column_of stage c.args.column).ends (column_of stage c.args.column).known.read) c.possible.result.now marks in
    ap length c.of_mask-possible.ensures ∙ length-block c.args.block c.possible.result.now ∙ ap (λ n. min 512 (n - 512 * c.args.block)) (wide ∙ sym long)
    ∙ sym (length-block c.args.block c.may.result.now) ∙ sym (ap length c.of_mask-may.ensures)

pub and_not-requires : goal.and_not-requires
and_not-requires c =
    let stage = c.args.engine.now in
    let long = long_mask stage c.args.item c.args.column c.requires.over is_possible c.may.result.now c.filter.result.now.truths c.may.ensures c.filter.ensures in
    let column = lent_column stage c.args.item c.args.column c.requires.over c.columns.result.now c.column.result.now c.columns.ensures c.column.ensures.column in
    let marks = c.possible.ensures ∙ ap (rows_where columns.is_possible) column in
    let wide = long_marks stage c.args.item c.args.column c.requires.over (columns.is_possible (column_of stage c.args.column).ends (column_of stage c.args.column).known.read) c.possible.result.now marks in
    let whole = long_rows stage c.args.item c.args.column c.requires.over is_sure_row in
    let same = ap length c.of_mask-may.ensures ∙ length-block c.args.block c.may.result.now ∙ ap (λ n. min 512 (n - 512 * c.args.block)) long in
    let other = ap length c.of_mask-possible.ensures ∙ length-block c.args.block c.possible.result.now ∙ ap (λ n. min 512 (n - 512 * c.args.block)) wide in
    ap length c.certain_block-certain.ensures ∙ length-block c.args.block (rows_with stage c.args.item is_sure_row) ∙ ap (λ n. min 512 (n - 512 * c.args.block)) whole
    ∙ sym (ap length c.and.ensures ∙ length-zip2 (λ a b. a && b) c.of_mask-may.result c.of_mask-possible.result (same ∙ sym other) ∙ same)

pub returns : goal.returns
returns c =
    let stage = c.args.engine.now in
    let column = lent_column stage c.args.item c.args.column c.requires.over c.columns.result.now c.column.result.now c.columns.ensures c.column.ensures.column in
    let marks = c.possible.ensures ∙ ap (rows_where columns.is_possible) column in
    let sure = block_of c.args.block (rows_with stage c.args.item is_sure_row) in
    c.and_not.ensures ∙ ap (zip2 (λ a b. a && not b) c.and.result) c.certain_block-certain.ensures
    ∙ ap (λ l. zip2 (λ a b. a && not b) l sure) (c.and.ensures ∙ ap (λ l. zip2 (λ a b. a && b) l c.of_mask-possible.result) c.of_mask-may.ensures
    ∙ ap (zip2 (λ a b. a && b) (block_of c.args.block c.may.result.now)) c.of_mask-possible.ensures)
    ∙ uncertain_in_block stage c.args.item c.args.column c.requires.over c.args.block c.may.result.now c.possible.result.now c.filter.result.now.truths c.may.ensures c.filter.ensures marks
