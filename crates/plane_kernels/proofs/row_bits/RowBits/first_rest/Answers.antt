use Rattle.std.proofs.Common.{◌&&◌, not, true, false, length, sym, ap, ◌∙◌}
use Rattle.std.specs.List.{position}
use Rattle.plane_kernels.specs.RowBits.{rows_held}
use Rattle.plane_kernels.proofs.Evens.{and_not_false, and_not_true, even_now, kept_beside, none_in, told_beside}
use Rattle.plane_kernels.proofs.row_bits.RowBits.first_rest.Goals as goal

pub returns-then-bit : goal.returns-then-bit
returns-then-bit c =
    let even = even_now (rows_held c.other.inside.state) c.args.other.now c.in-Even.rows c.in-Even.bit true c.other.view_is (ap rows_held c.in-Even.is) c.if-bit.true in
    sym (ap (position (λ b. b)) (told_beside (λ a b. a && not b) true false and_not_true c.args.self.now c.args.other.now c.in-Even.rows even c.requires) ∙ none_in (length c.args.self.now))

pub returns-else-bit : goal.returns-else-bit
returns-else-bit c =
    let even = even_now (rows_held c.other.inside.state) c.args.other.now c.in-Even.rows c.in-Even.bit false c.other.view_is (ap rows_held c.in-Even.is) c.if-bit.false in
    c.first_one.ensures.first ∙ sym (ap (position (λ b. b)) (kept_beside (λ a b. a && not b) false and_not_false c.args.self.now c.args.other.now c.in-Even.rows even c.requires))
