use Rattle.std.proofs.Common.{◌||◌, true, false, length, replicate, sym, ap, ◌∙◌}
use Rattle.plane_kernels.specs.RowBits.{rows_held}
use Rattle.plane_kernels.proofs.Evens.{even_now, kept_beside, or_false, or_true, told_beside}
use Rattle.plane_kernels.proofs.row_bits.RowBits.or_into.Goals as goal

pub returns-then-bit : goal.returns-then-bit
returns-then-bit c =
    let even = even_now (rows_held c.other.inside.state) c.args.other.now c.in-Even.rows c.in-Even.bit true c.other.view_is (ap rows_held c.in-Even.is) c.if-bit.true in
    c.fill.ensures.rows ∙ ap (λ l. replicate (length l) true) c.self.view_is ∙ sym (told_beside (λ a b. a || b) true true or_true c.args.self.now c.args.other.now c.in-Even.rows even c.requires)

pub returns-else-bit : goal.returns-else-bit
returns-else-bit c =
    let even = even_now (rows_held c.other.inside.state) c.args.other.now c.in-Even.rows c.in-Even.bit false c.other.view_is (ap rows_held c.in-Even.is) c.if-bit.false in
    sym (kept_beside (λ a b. a || b) false or_false c.args.self.now c.args.other.now c.in-Even.rows even c.requires)
