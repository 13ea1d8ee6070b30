use Rattle.std.proofs.Common.{◌&&◌, true, false, length, refl, sym, ap, ◌∙◌}
use Rattle.std.specs.List.{count_by}
use Rattle.plane_kernels.specs.RowBits.{rows_held}
use Rattle.plane_kernels.proofs.Evens.{count_none, even_now, kept_behind, told_behind}
use Rattle.plane_kernels.proofs.row_bits.RowBits.count_written.Goals as goal

pub returns-then-bit : goal.returns-then-bit
returns-then-bit c =
    let even = even_now (rows_held c.self.inside.state) c.args.self.now c.in-Even.rows c.in-Even.bit true c.self.view_is (ap rows_held c.in-Even.is) c.if-bit.true in
    c.count.ensures ∙ sym (ap (count_by (λ b. b)) (kept_behind (λ a b. a && b) true (λ _. refl) c.args.self.now c.args.other.now c.in-Even.rows even c.requires))

pub returns-else-bit : goal.returns-else-bit
returns-else-bit c =
    let even = even_now (rows_held c.self.inside.state) c.args.self.now c.in-Even.rows c.in-Even.bit false c.self.view_is (ap rows_held c.in-Even.is) c.if-bit.false in
    sym (ap (count_by (λ b. b)) (told_behind (λ a b. a && b) false false (λ _. refl) c.args.self.now c.args.other.now c.in-Even.rows even c.requires) ∙ count_none (length c.args.self.now))
