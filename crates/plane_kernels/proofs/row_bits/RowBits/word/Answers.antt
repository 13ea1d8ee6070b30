use Rattle.std.proofs.Common.{◌-◌, ◌*◌, length, min, take, drop, true, false, sym, ap, ◌∙◌}
use Rattle.std.proofs.lemmas.List.{length-replicate}
use Rattle.plane_kernels.specs.RowBits.{rows_held}
use Rattle.plane_kernels.specs.Rows.{bits_of}
use Rattle.plane_kernels.proofs.Evens.{even_now, word_of_none, word_of_ones}
use Rattle.plane_kernels.proofs.row_bits.RowBits.word.Goals as goal

pub returns-then-bit : goal.returns-then-bit
returns-then-bit c =
    let even = even_now (rows_held c.self.inside.state) c.args.self.now c.in-Even.rows c.in-Even.bit true c.self.view_is (ap rows_held c.in-Even.is) c.if-bit.true in
    let q = c.args.block in
    ap (λ l. bits_of (min 64 (length l - 64 * q)) 18446744073709551615) even ∙ ap (λ n. bits_of (min 64 (n - 64 * q)) 18446744073709551615) (length-replicate c.in-Even.rows true)
    ∙ word_of_ones c.in-Even.rows q ∙ ap (λ l. take 64 (drop (64 * q) l)) (sym even)

pub returns-else-bit : goal.returns-else-bit
returns-else-bit c =
    let even = even_now (rows_held c.self.inside.state) c.args.self.now c.in-Even.rows c.in-Even.bit false c.self.view_is (ap rows_held c.in-Even.is) c.if-bit.false in
    let q = c.args.block in
    ap (λ l. bits_of (min 64 (length l - 64 * q)) 0) even ∙ ap (λ n. bits_of (min 64 (n - 64 * q)) 0) (length-replicate c.in-Even.rows false)
    ∙ word_of_none c.in-Even.rows q ∙ ap (λ l. take 64 (drop (64 * q) l)) (sym even)
