use Rattle.std.proofs.Common.{◌&&◌, true, false, length, sym, ap, ◌∙◌}
use Rattle.std.specs.List.{count_by}
use Rattle.plane_kernels.specs.RowBits.{rows_held}
use Rattle.plane_kernels.proofs.Evens.{and_false, and_true, count_none, even_now, kept_beside, told_beside}
use Rattle.plane_kernels.proofs.row_bits.RowBits.count_both.Goals as goal

pub returns-then-bit : goal.returns-then-bit
returns-then-bit c =
    let even = even_now (rows_held c.other.inside.state) c.args.other.now c.in-Even.rows c.in-Even.bit true c.other.view_is (ap rows_held c.in-Even.is) c.if-bit.true in
    c.count.ensures ∙ sym (ap (count_by (λ b. b)) (kept_beside (λ a b. a && b) true and_true c.args.self.now c.args.other.now c.in-Even.rows even c.requires))

pub returns-else-bit : goal.returns-else-bit
returns-else-bit c =
    let even = even_now (rows_held c.other.inside.state) c.args.other.now c.in-Even.rows c.in-Even.bit false c.other.view_is (ap rows_held c.in-Even.is) c.if-bit.false in
    sym (ap (count_by (λ b. b)) (told_beside (λ a b. a && b) false false and_false c.args.self.now c.args.other.now c.in-Even.rows even c.requires) ∙ count_none (length c.args.self.now))
