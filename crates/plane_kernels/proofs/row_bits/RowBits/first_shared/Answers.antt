use Rattle.std.proofs.Common.{◌&&◌, true, false, length, refl, sym, ap, ◌∙◌}
use Rattle.std.specs.List.{position}
use Rattle.plane_kernels.specs.RowBits.{rows_held}
use Rattle.plane_kernels.proofs.Evens.{and_false, and_true, even_now, kept_behind, kept_beside, none_in, told_behind, told_beside}
use Rattle.plane_kernels.proofs.row_bits.RowBits.first_shared.Goals as goal

pub returns-then-bit : goal.returns-then-bit
returns-then-bit c =
    let even = even_now (rows_held c.other.inside.state) c.args.other.now c.in-Written-Even.rows-1 c.in-Written-Even.bit true c.other.view_is (ap rows_held c.in-Written-Even.is-1) c.if-bit.true in
    c.first_one.ensures.first ∙ sym (ap (position (λ b. b)) (kept_beside (λ a b. a && b) true and_true c.args.self.now c.args.other.now c.in-Written-Even.rows-1 even c.requires))

pub returns-else-bit : goal.returns-else-bit
returns-else-bit c =
    let even = even_now (rows_held c.other.inside.state) c.args.other.now c.in-Written-Even.rows-1 c.in-Written-Even.bit false c.other.view_is (ap rows_held c.in-Written-Even.is-1) c.if-bit.false in
    sym (ap (position (λ b. b)) (told_beside (λ a b. a && b) false false and_false c.args.self.now c.args.other.now c.in-Written-Even.rows-1 even c.requires) ∙ none_in (length c.args.self.now))

pub returns-then-bit-2 : goal.returns-then-bit-2
returns-then-bit-2 c =
    let even = even_now (rows_held c.self.inside.state) c.args.self.now c.in-Even-default.rows-0 c.in-Even-default.bit true c.self.view_is (ap rows_held c.in-Even-default.is-0) c.if-bit-2.true in
    c.first_one-then-bit-2.ensures.first ∙ sym (ap (position (λ b. b)) (kept_behind (λ a b. a && b) true (λ _. refl) c.args.self.now c.args.other.now c.in-Even-default.rows-0 even c.requires))

pub returns-else-bit-2 : goal.returns-else-bit-2
returns-else-bit-2 c =
    let even = even_now (rows_held c.self.inside.state) c.args.self.now c.in-Even-default.rows-0 c.in-Even-default.bit false c.self.view_is (ap rows_held c.in-Even-default.is-0) c.if-bit-2.false in
    sym (ap (position (λ b. b)) (told_behind (λ a b. a && b) false false (λ _. refl) c.args.self.now c.args.other.now c.in-Even-default.rows-0 even c.requires) ∙ none_in (length c.args.self.now))
