use Rattle.std.proofs.Common.{◌&&◌, ◌||◌, not, true, false, refl, sym, ap, ◌∙◌}
use Rattle.std.specs.Simd.Lanes.{zip2}
use Rattle.plane_kernels.specs.RowBits.{rows_held}
use Rattle.plane_kernels.proofs.Bitwise.{zip2-map_right}
use Rattle.plane_kernels.proofs.Evens.{and_not_false, and_not_true, behind, even_now, kept_beside, none_added, told_behind, told_beside}
use Rattle.plane_kernels.proofs.row_bits.RowBits.or_rest.Goals as goal

pub returns-then-not-bit : goal.returns-then-not-bit
returns-then-not-bit c =
    let even = even_now (rows_held c.right.inside.state) c.args.right.now c.in-Written-Even.rows-1 c.in-Written-Even.bit false c.right.view_is (ap rows_held c.in-Written-Even.is-1) c.if-not-bit.true in
    c.or_into.ensures ∙ ap (zip2 (λ a b. a || b) c.args.self.now) (sym (kept_beside (λ a b. a && not b) false and_not_false c.args.left.now c.args.right.now c.in-Written-Even.rows-1 even (c.requires.right ∙ sym c.requires.left)))

pub returns-else-not-bit : goal.returns-else-not-bit
returns-else-not-bit c =
    let even = even_now (rows_held c.right.inside.state) c.args.right.now c.in-Written-Even.rows-1 c.in-Written-Even.bit true c.right.view_is (ap rows_held c.in-Written-Even.is-1) c.if-not-bit.false in
    none_added c.args.self.now c.args.left.now (zip2 (λ a b. a && not b) c.args.left.now c.args.right.now) c.requires.left (told_beside (λ a b. a && not b) true false and_not_true c.args.left.now c.args.right.now c.in-Written-Even.rows-1 even (c.requires.right ∙ sym c.requires.left))

pub returns-then-bit : goal.returns-then-bit
returns-then-bit c =
    let even = even_now (rows_held c.left.inside.state) c.args.left.now c.in-Even-default.rows-0 c.in-Even-default.bit true c.left.view_is (ap rows_held c.in-Even-default.is-0) c.if-bit.true in
    c.or_not_into.ensures ∙ sym (zip2-map_right (λ a b. a || b) c.args.self.now c.args.right.now) ∙ ap (zip2 (λ a b. a || b) c.args.self.now) (sym (behind (λ a b. a && not b) true not (λ _. refl) c.args.left.now c.args.right.now c.in-Even-default.rows-0 even (c.requires.right ∙ sym c.requires.left)))

pub returns-else-bit : goal.returns-else-bit
returns-else-bit c =
    let even = even_now (rows_held c.left.inside.state) c.args.left.now c.in-Even-default.rows-0 c.in-Even-default.bit false c.left.view_is (ap rows_held c.in-Even-default.is-0) c.if-bit.false in
    none_added c.args.self.now c.args.left.now (zip2 (λ a b. a && not b) c.args.left.now c.args.right.now) c.requires.left (told_behind (λ a b. a && not b) false false (λ _. refl) c.args.left.now c.args.right.now c.in-Even-default.rows-0 even (c.requires.right ∙ sym c.requires.left))
