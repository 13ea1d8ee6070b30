use Rattle.std.proofs.Common.{◌≡◌, ◌≤◌, ◌*◌, ◌&&◌, length, count_by, ap, sym, ◌∙◌, arith}
use Rattle.std.specs.Simd.Lanes.{zip2}
use Rattle.std.proofs.lemmas.List.{length-map, take_all}
use Rattle.std.proofs.lemmas.Simd.{length-zip2}
use Rattle.known_column.specs.Columns.{is_at_top, number_of, rows_where}
use Rattle.aggregates.specs.Selections.{block_of}
use Rattle.aggregates.proofs.BlockSums.{all_blocks, next_block}
use Rattle.avg_exact.specs.Blocks.{column_of, part_rows}
use Rattle.avg_exact.proofs.RowLists.{block-map, block-zip2, long, long_part, next_count}
use Rattle.avg_exact.proofs.planes.measure_part.Goals as goal

pub loop-block-preserved : goal.loop-block-preserved
loop-block-preserved c =
    let stage = c.args.engine.now in
    let column = column_of stage c.args.column in
    let rows = part_rows stage c.args.item c.args.column c.args.part in
    let top = rows_where is_at_top column in
    let block = c.loop-block.block in
    let more = c.measure_block-more.ensures in
    let as_long = long_part stage c.args.item c.args.column c.requires.over c.args.part ∙ sym (long stage c.args.item c.args.column c.requires.over) in
    let at_top : c.measure_block-more.result.at_top ≡ count_by (λ b. b) (block_of block (zip2 (λ a b. a && b) rows top)) =
    more.measure.at_top ∙ ap (λ l. count_by (λ b. b) (zip2 (λ a b. a && b) (block_of block rows) l)) (sym (block-map (is_at_top column.ends column.known.read) block column.known.prefixes))
    ∙ ap (count_by (λ b. b)) (sym (block-zip2 (λ a b. a && b) block rows top)) in
    record {
      count = omega (arith, c.loop-block.invariant.count, more.measure.rows_is, next_count block rows);
      sum = omega (arith, c.loop-block.invariant.sum, more.measure.numbers, next_block rows column.known.prefixes (number_of column.ends column.known.read) block as_long);
      tops = omega (arith, c.loop-block.invariant.tops, at_top, next_count block (zip2 (λ a b. a && b) rows top));
      few_rows = omega (arith, c.loop-block.invariant.few_rows, more.rows);
      few_at_top = omega (arith, c.loop-block.invariant.few_at_top, more.at_top);
      few_numbers = omega (arith, c.loop-block.invariant.few_numbers, more.numbers);
    }

pub returns : goal.returns
returns c =
    let stage = c.args.engine.now in
    let column = column_of stage c.args.column in
    let rows = part_rows stage c.args.item c.args.column c.args.part in
    let block = c.loop-block.block in
    let whole = long_part stage c.args.item c.args.column c.requires.over c.args.part in
    let as_long = whole ∙ sym (long stage c.args.item c.args.column c.requires.over) in
    let past : length rows ≤ 512 * block = omega (arith, whole, c.rows.ensures, c.loop-block-test.false, c.div_ceil-block-end.ensures) in
    let both = zip2 (λ a b. a && b) rows (rows_where is_at_top column) in
    let few : length both ≤ 512 * block = omega (arith, past, length-zip2 (λ a b. a && b) rows (rows_where is_at_top column) (as_long ∙ sym (length-map column.known.prefixes (is_at_top column.ends column.known.read)))) in
    record {
      rows_is = c.loop-block.invariant.count ∙ ap (count_by (λ b. b)) (take_all (512 * block) rows past);
      numbers = c.loop-block.invariant.sum ∙ all_blocks rows column.known.prefixes (number_of column.ends column.known.read) block as_long past;
      at_top = c.loop-block.invariant.tops ∙ ap (count_by (λ b. b)) (take_all (512 * block) both few);
    }
