use Rattle.std.proofs.Common.{◌&&◌, not, true, false, refl, sym, ap, ◌∙◌}
use Rattle.std.specs.List.{position}
use Rattle.std.specs.Simd.Lanes.{zip2}
use Rattle.plane_kernels.specs.RowBits.{rows_held}
use Rattle.plane_kernels.proofs.Evens.{and_not_false, and_not_true, and_twice, behind, even_now, kept_beside, none_taken, told_behind, told_beside}
use Rattle.plane_kernels.proofs.row_bits.RowBits.first_past.Goals as goal

pub returns-then-bit : goal.returns-then-bit
returns-then-bit c =
    let even = even_now (rows_held c.without.inside.state) c.args.without.now c.in-Written-Even.rows-1 c.in-Written-Even.bit true c.without.view_is (ap rows_held c.in-Written-Even.is-1) c.if-bit.true in
    c.first_one.ensures.first ∙ ap (position (λ b. b)) (none_taken c.args.self.now c.args.within.now (zip2 (λ a b. a && not b) c.args.within.now c.args.without.now) c.requires.within (told_beside (λ a b. a && not b) true false and_not_true c.args.within.now c.args.without.now c.in-Written-Even.rows-1 even (c.requires.without ∙ sym c.requires.within)))

pub returns-else-bit : goal.returns-else-bit
returns-else-bit c =
    let even = even_now (rows_held c.without.inside.state) c.args.without.now c.in-Written-Even.rows-1 c.in-Written-Even.bit false c.without.view_is (ap rows_held c.in-Written-Even.is-1) c.if-bit.false in
    c.first_rest.ensures ∙ ap (λ l. position (λ b. b) (zip2 (λ a b. a && not b) c.args.self.now l)) (sym (kept_beside (λ a b. a && not b) false and_not_false c.args.within.now c.args.without.now c.in-Written-Even.rows-1 even (c.requires.without ∙ sym c.requires.within)))

pub returns-then-bit-2 : goal.returns-then-bit-2
returns-then-bit-2 c =
    let even = even_now (rows_held c.within.inside.state) c.args.within.now c.in-Even-default.rows-0 c.in-Even-default.bit true c.within.view_is (ap rows_held c.in-Even-default.is-0) c.if-bit-2.true in
    c.first_shared.ensures ∙ ap (position (λ b. b)) (sym (ap (zip2 (λ a b. a && not b) c.args.self.now) (behind (λ a b. a && not b) true not (λ _. refl) c.args.within.now c.args.without.now c.in-Even-default.rows-0 even (c.requires.without ∙ sym c.requires.within)) ∙ and_twice c.args.self.now c.args.without.now))

pub returns-else-bit-2 : goal.returns-else-bit-2
returns-else-bit-2 c =
    let even = even_now (rows_held c.within.inside.state) c.args.within.now c.in-Even-default.rows-0 c.in-Even-default.bit false c.within.view_is (ap rows_held c.in-Even-default.is-0) c.if-bit-2.false in
    c.first_one-else-bit-2.ensures.first ∙ ap (position (λ b. b)) (none_taken c.args.self.now c.args.within.now (zip2 (λ a b. a && not b) c.args.within.now c.args.without.now) c.requires.within (told_behind (λ a b. a && not b) false false (λ _. refl) c.args.within.now c.args.without.now c.in-Even-default.rows-0 even (c.requires.without ∙ sym c.requires.within)))
