use Rattle.std.proofs.Common.{◌≡◌, map, ap, subst, ◌∙◌}
use Rattle.plane_kernels.specs.Rows.{block_rows, rows_of, IsPadded}
use Rattle.known_column.specs.Columns.{rows_of_column}
use Rattle.aggregates.specs.Selections.{block_of, early_number, sum_where}
use Rattle.aggregates.proofs.EarlyNumbers.{all_digits}
use Rattle.aggregates.proofs.sums.sum_block.Goals as goal

pub sum_rows-requires-clause-rows : goal.sum_rows-requires-clause-rows
sum_rows-requires-clause-rows c = subst (λ n. IsPadded (block_rows n c.args.block) c.block-rows.result) c.requires.rows c.block-rows.ensures.padded

pub returns-clause-sum : goal.returns-clause-sum
returns-clause-sum c =
    let column = c.args.known.now in
    let ps = block_of c.args.block column.known.prefixes in
    let words = c.block-rows.result in
    let rows : rows_of (block_rows (rows_of_column column) c.args.block) words ≡ block_of c.args.block c.args.mask.now =
    subst (λ n. rows_of (block_rows n c.args.block) words ≡ block_of c.args.block c.args.mask.now) c.requires.rows c.block-rows.ensures.rows in
    c.sum_rows.ensures.sum ∙ ap (λ r. sum_where r (map (early_number column c.number_planes-read.result.1) ps)) rows
    ∙ ap (λ k. sum_where (block_of c.args.block c.args.mask.now) (map (early_number column k) ps)) c.number_planes-read.ensures.to
    ∙ ap (sum_where (block_of c.args.block c.args.mask.now)) (all_digits column ps)
