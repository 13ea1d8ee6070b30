use Rattle.std.proofs.Common.{◌≡◌, ◌*◌, length, sym, ap, ◌∙◌, arith}
use Rattle.std.specs.Simd.Lanes.{put_chunk}
use Rattle.plane_kernels.specs.Rows.{rows_of, block_rows}
use Rattle.plane_kernels.proofs.RowLemmas.{length-rows_of}
use Rattle.plane_kernels.proofs.block.Block.put_into.Goals as goal

pub returns : goal.returns
returns c =
    let n = c.self.inside.rows in
    let ws = c.self.inside.words in
    let at = 512 * c.args.block in
    let old = c.args.bits.now in
    let few = c.self.invariant.few in
    let count : block_rows (length old) c.args.block ≡ n = sym c.requires.rows ∙ ap length (sym c.self.view_is) ∙ length-rows_of n ws (omega (arith, c.self.invariant.eight)) in
    c.set_block.ensures ∙ ap (λ k. put_chunk at old (rows_of k ws)) count ∙ ap (put_chunk at old) c.self.view_is
