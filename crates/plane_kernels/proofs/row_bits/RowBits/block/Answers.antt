use Rattle.std.proofs.Common.{◌≡◌, ◌-◌, ◌*◌, min, length, replicate, take, drop, sym, ap, ◌∙◌, arith}
use Rattle.std.proofs.lemmas.List.{length-replicate}
use Rattle.plane_kernels.specs.RowBits.{rows_held}
use Rattle.plane_kernels.specs.Rows.{block_rows, rows_of}
use Rattle.plane_kernels.proofs.Evens.{part_of_even}
use Rattle.plane_kernels.proofs.row_bits.RowBits.block.Goals as goal

pub returns-in-Even-clause-rows : goal.returns-in-Even-clause-rows
returns-in-Even-clause-rows c =
    let held = sym c.self.view_is ∙ ap rows_held c.in-Even.is in
    let n = c.in-Even.rows in
    let q = c.args.block in
    let rows : length c.args.self.now ≡ n = ap length held ∙ length-replicate n c.in-Even.bit in
    let size : c.min.result ≡ min 512 (n - 512 * q) = c.min.ensures ∙ omega arith in
    ap (λ k. rows_of (block_rows k q) c.even_block.result) rows ∙ ap (λ k. rows_of k c.even_block.result) (sym size) ∙ c.even_block.ensures.rows
    ∙ ap (λ k. replicate k c.in-Even.bit) size ∙ sym (part_of_even 512 (512 * q) n c.in-Even.bit) ∙ ap (λ l. take 512 (drop (512 * q) l)) (sym held)
