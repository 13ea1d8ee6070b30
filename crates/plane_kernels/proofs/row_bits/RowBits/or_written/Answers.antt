use Rattle.std.proofs.Common.{◌||◌, true, false, replicate, refl, sym, ap, ◌∙◌}
use Rattle.plane_kernels.specs.RowBits.{rows_held}
use Rattle.plane_kernels.proofs.Evens.{all_same, even_now, kept_behind, told_behind, written_rows}
use Rattle.plane_kernels.proofs.row_bits.RowBits.or_written.Goals as goal

pub returns-then-not-bit : goal.returns-then-not-bit
returns-then-not-bit c =
    let even = even_now (rows_held c.self.inside.state) c.args.self.now c.in-Even.rows c.in-Even.bit false c.self.view_is (ap rows_held c.in-Even.is) c.if-not-bit.true in
    written_rows c.args.other.now c.copy_from.new.self c.copy_from.ensures ∙ sym (kept_behind (λ a b. a || b) false (λ _. refl) c.args.self.now c.args.other.now c.in-Even.rows even c.requires)

pub returns-else-not-bit : goal.returns-else-not-bit
returns-else-not-bit c =
    let bit = c.if-not-bit.false in
    let even = even_now (rows_held c.self.inside.state) c.args.self.now c.in-Even.rows c.in-Even.bit true c.self.view_is (ap rows_held c.in-Even.is) bit in
    ap (replicate c.in-Even.rows) bit ∙ sym even ∙ all_same c.args.self.now c.in-Even.rows true even ∙ sym (told_behind (λ a b. a || b) true true (λ _. refl) c.args.self.now c.args.other.now c.in-Even.rows even c.requires)
