use Rattle.std.proofs.Common.{◌≡◌, ◌-◌, ◌*◌, ◌&&◌, Bool, min, length, map, count_by, ap, sym, ◌∙◌, arith}
use Rattle.std.specs.Simd.Lanes.{zip2}
use Rattle.std.proofs.lemmas.List.Sums.{count_by-le-length}
use Rattle.known_column.specs.Columns.{is_at_top, number_of, rows_where}
use Rattle.aggregates.specs.Selections.{block_of, sum_where}
use Rattle.aggregates.proofs.BlockSums.{column_block}
use Rattle.aggregates.proofs.MaskSums.{count_both-le}
use Rattle.avg_exact.specs.Blocks.{column_of, part_rows}
use Rattle.avg_exact.proofs.RowLists.{block-map, length-block, lent_column, long, long_marks, long_part, passed_over}
use Rattle.avg_exact.proofs.Measured.{none_measured}
use Rattle.avg_exact.proofs.planes.measure_block.Goals as goal

pub and-requires : goal.and-requires
and-requires c =
    let stage = c.args.engine.now in
    let column = lent_column stage c.args.item c.args.column c.requires.over c.columns.result.now c.column.result.now c.columns.ensures c.column.ensures.column in
    let marks = c.at_top.ensures ∙ ap (rows_where is_at_top) column in
    let wide = long_marks stage c.args.item c.args.column c.requires.over (is_at_top (column_of stage c.args.column).ends (column_of stage c.args.column).known.read) c.at_top.result.now marks in
    let all = long_part stage c.args.item c.args.column c.requires.over c.args.part in
    ap length c.of_mask-top.ensures ∙ length-block c.args.block c.at_top.result.now ∙ ap (λ n. min 512 (n - 512 * c.args.block)) (wide ∙ sym all)
    ∙ sym (ap length c.part_block-rows.ensures ∙ length-block c.args.block (part_rows stage c.args.item c.args.column c.args.part))

pub returns-clause-measure : goal.returns-clause-measure
returns-clause-measure c =
    let stage = c.args.engine.now in
    let at = column_of stage c.args.column in
    let rows = part_rows stage c.args.item c.args.column c.args.part in
    let column = lent_column stage c.args.item c.args.column c.requires.over c.columns.result.now c.column.result.now c.columns.ensures c.column.ensures.column in
    let marks = c.at_top.ensures ∙ ap (rows_where is_at_top) column in
    record {
      rows_is = c.count.ensures ∙ ap (count_by (λ b. b)) c.part_block-rows.ensures;
      numbers = c.add_numbers.ensures.sum ∙ ap (λ l. sum_where l (map (number_of at.ends at.known.read) (block_of c.args.block at.known.prefixes))) c.part_block-rows.ensures;
      at_top = c.count-2.ensures ∙ ap (count_by (λ b. b)) (c.and.ensures ∙ ap (λ l. zip2 (λ a b. a && b) l c.of_mask-top.result) c.part_block-rows.ensures
          ∙ ap (zip2 (λ a b. a && b) (block_of c.args.block rows)) (c.of_mask-top.ensures ∙ ap (block_of c.args.block) marks ∙ block-map (is_at_top at.ends at.known.read) c.args.block at.known.prefixes));
    }

pub returns-clause-rows : goal.returns-clause-rows
returns-clause-rows c =
    let rows = part_rows c.args.engine.now c.args.item c.args.column c.args.part in
    let few = count_by-le-length {X = Bool} (λ b. b) (block_of c.args.block rows) in
    let all = ap (count_by (λ b. b)) c.part_block-rows.ensures in
    omega (arith, c.count.ensures, all, few, length-block c.args.block rows)

pub returns-clause-at_top : goal.returns-clause-at_top
returns-clause-at_top c =
    let rows = part_rows c.args.engine.now c.args.item c.args.column c.args.part in
    let few = count_by-le-length {X = Bool} (λ b. b) c.part_block-rows.result in
    let both = count_both-le c.part_block-rows.result c.of_mask-top.result in
    let all = ap (count_by (λ b. b)) c.and.ensures in
    omega (arith, c.count-2.ensures, all, both, few, ap length c.part_block-rows.ensures, length-block c.args.block rows)

pub returns-then-is_passed_over-clause-measure : goal.returns-then-is_passed_over-clause-measure
returns-then-is_passed_over-clause-measure c =
    let stage = c.args.engine.now in
    let column = column_of stage c.args.column in
    let rows = part_rows stage c.args.item c.args.column c.args.part in
    let as_long = long_part stage c.args.item c.args.column c.requires.over c.args.part ∙ sym (long stage c.args.item c.args.column c.requires.over) in
    let few : length (block_of c.args.block rows) ≡ length (block_of c.args.block column.known.prefixes) =
    length-block c.args.block rows ∙ ap (λ n. min 512 (n - 512 * c.args.block)) as_long ∙ sym (length-block c.args.block column.known.prefixes) in
    none_measured (column_block column c.args.block) (block_of c.args.block rows) few
    (passed_over stage c.args.item c.args.column c.requires.over c.args.part c.args.blocks.now c.args.block c.requires.blocks c.requires.block (sym c.is_passed_over.ensures ∙ c.if-is_passed_over.true))
