use Rattle.std.proofs.Common.{◌≡◌, ◌+◌, ◌*◌, length, take, ap, sym, subst, ◌∙◌, arith}
use Rattle.plane_kernels.specs.Rows.{block_rows, rows_of}
use Rattle.aggregates.specs.Selections.{block_of}
use Rattle.aggregates.proofs.KeptSums.{rows_stayed}
use Rattle.product_sums.proofs.even_masks.have_same_rows.Goals as goal

pub loop-block-preserved : goal.loop-block-preserved
loop-block-preserved c =
    let mask = c.args.mask.now in
    let other = c.args.other.now in
    let block = c.loop-block.block in
    let next : 512 * (block + 1) ≡ 512 * block + 512 = omega arith in
    let same = c.are_same.ensures c.if-not-are_same.false in
    let here : block_of block mask ≡ block_of block other =
    sym c.block.ensures.rows ∙ ap (rows_of (block_rows (length mask) block)) same ∙ ap (λ n. rows_of (block_rows n block) c.block-in-loop-block.result) (sym c.requires) ∙ c.block-in-loop-block.ensures.rows in
    subst (λ n. take n mask ≡ take n other) (sym next) (rows_stayed 512 (512 * block) mask other c.loop-block.invariant here)
