-- A block more of rows is summed.
use Rattle.std.proofs.Common.{◌≡◌, ◌-◌, ◌*◌, min, length, map, take, ap, ◌∙◌, arith}
use Rattle.known_column.specs.Columns.{number_of}
use Rattle.known_column.specs.Columns.{block_rows}
use Rattle.plane_bench.proofs.Sums.{block_more}
use Rattle.plane_bench.proofs.summing.sum_numbers.Goals as goal

pub loop-block-preserved : goal.loop-block-preserved
loop-block-preserved c =
    let column = c.args.column.now in
    let rows = column.known.prefixes in
    let block = c.loop-block.block in
    let f = number_of column.ends column.known.read in
    let count : c.min-count.result ≡ min 64 (length rows - 64 * block) = omega (arith, c.min-count.ensures, c.rows-rows.ensures.rows) in
    let numbers : take c.min-count.result c.numbers.new.numbers ≡ map f (block_rows block rows) = ap (λ n. take n c.numbers.new.numbers) count ∙ c.numbers.ensures in
    block_more f rows block c.loop-block.total c.wrapping_sum-total.result (take c.min-count.result c.numbers.new.numbers) c.loop-block.invariant c.wrapping_sum-total.ensures numbers
