use Rattle.std.proofs.Common.{◌≡◌, ◌*◌, ◌<◌, ◌&&◌, map, length, count_by, ap, sym, subst, ◌∙◌, arith}
use Rattle.std.specs.Simd.Lanes.{zip2}
use Rattle.std.proofs.lemmas.List.{length-map}
use Rattle.plane_kernels.specs.Rows.{block_rows, rows_of, IsPadded}
use Rattle.plane_kernels.proofs.RowLemmas.{count-rows_of}
use Rattle.known_column.specs.Columns.{is_at_top, rows_of_column}
use Rattle.aggregates.specs.Selections.{block_of, early_number, sum_where}
use Rattle.aggregates.proofs.BlockSums.{count_block}
use Rattle.aggregates.proofs.EarlyNumbers.{all_digits}
use Rattle.aggregates.proofs.row_sums.sums_in_block.Goals as goal

pub block-requires : goal.block-requires
block-requires c =
    let column = c.args.known.now in
    let long : length c.at_top.result.now ≡ rows_of_column column = ap length c.at_top.ensures ∙ length-map column.known.prefixes (is_at_top column.ends column.known.read) in
    subst (λ n. 512 * c.args.block < n) (sym long) c.requires.block

pub returns-clause-sums : goal.returns-clause-sums
returns-clause-sums c = λ mask is.
    let column = c.args.known.now in
    let ps = column.known.prefixes in
    let block = c.args.block in
    let n = block_rows (rows_of_column column) block in
    let words = c.args.rows.now in
    let top = is_at_top column.ends column.known.read in
    let long : length c.at_top.result.now ≡ rows_of_column column = ap length c.at_top.ensures ∙ length-map ps top in
    record {
      rows = c.count_ones.ensures ∙ sym (count-rows_of n words c.requires.rows) ∙ ap (count_by (λ b. b)) is;
      at_top = c.count_both.ensures
          ∙ count_block ps top block n words c.block.result c.at_top.result.now (omega arith) (omega arith) c.requires.rows
          (subst (λ k. IsPadded (block_rows k block) c.block.result) long c.block.ensures.padded)
          (subst (λ k. rows_of (block_rows k block) c.block.result ≡ block_of block c.at_top.result.now) long c.block.ensures.rows) c.at_top.ensures
          ∙ ap (λ m. count_by (λ b. b) (zip2 (λ a b. a && b) m (map top (block_of block ps)))) is;
      numbers = c.sum_rows.ensures.sum ∙ ap (λ r. sum_where r (map (early_number column c.number_planes-read.result.1) (block_of block ps))) is
          ∙ ap (λ k. sum_where (block_of block mask) (map (early_number column k) (block_of block ps))) c.number_planes-read.ensures.to
          ∙ ap (sum_where (block_of block mask)) (all_digits column (block_of block ps));
    }
