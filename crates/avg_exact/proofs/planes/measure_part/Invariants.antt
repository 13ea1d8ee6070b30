use Rattle.std.proofs.Common.{◌≡◌, ◌*◌, ◌≤◌, ◌&&◌, take, count_by}
use Rattle.std.specs.Simd.Lanes.{zip2}
use Rattle.known_column.specs.Columns.{is_at_top, number_of, rows_where}
use Rattle.aggregates.proofs.BlockSums.{sum_before}
use Rattle.avg_exact.specs.Blocks.{column_of, part_rows}
use Rattle.avg_exact.proofs.planes.measure_part.Given as goal

abbrev pub invariant-loop-block : goal.invariant-loop-block
invariant-loop-block l =
    let column = column_of l.engine l.column in
    let rows = part_rows l.engine l.item l.column l.part in
    record {
      count : l.measure.rows ≡ count_by (λ b. b) (take (512 * l.block) rows);
      sum : l.measure.numbers ≡ sum_before rows column.known.prefixes (number_of column.ends column.known.read) l.block;
      tops : l.measure.at_top ≡ count_by (λ b. b) (take (512 * l.block) (zip2 (λ a b. a && b) rows (rows_where is_at_top column)));
      few_rows : l.measure.rows ≤ l.block * 512;
      few_at_top : l.measure.at_top ≤ l.block * 512;
      few_numbers : l.measure.numbers ≤ l.block * 309485009821345068724781056;
    }
