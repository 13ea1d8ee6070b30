use Rattle.std.proofs.Common.{◌&&◌, not, true, false, map, replicate, refl, sym, ap, ◌∙◌}
use Rattle.plane_kernels.specs.RowBits.{rows_held}
use Rattle.plane_kernels.proofs.Evens.{all_same, behind, even_now, told_behind, written_rows}
use Rattle.plane_kernels.proofs.row_bits.RowBits.and_not_written.Goals as goal

pub returns-then-bit : goal.returns-then-bit
returns-then-bit c =
    let even = even_now (rows_held c.self.inside.state) c.args.self.now c.in-Even.rows c.in-Even.bit true c.self.view_is (ap rows_held c.in-Even.is) c.if-bit.true in
    c.not_into.ensures ∙ ap (map not) (written_rows c.args.other.now c.copy_from.new.self c.copy_from.ensures) ∙ sym (behind (λ a b. a && not b) true not (λ _. refl) c.args.self.now c.args.other.now c.in-Even.rows even c.requires)

pub returns-else-bit : goal.returns-else-bit
returns-else-bit c =
    let even = even_now (rows_held c.self.inside.state) c.args.self.now c.in-Even.rows c.in-Even.bit false c.self.view_is (ap rows_held c.in-Even.is) c.if-bit.false in
    ap (replicate c.in-Even.rows) c.if-bit.false ∙ sym even ∙ all_same c.args.self.now c.in-Even.rows false even ∙ sym (told_behind (λ a b. a && not b) false false (λ _. refl) c.args.self.now c.args.other.now c.in-Even.rows even c.requires)
