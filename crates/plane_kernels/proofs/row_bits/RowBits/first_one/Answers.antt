use Rattle.std.proofs.Common.{◌≡◌, replicate, sym, ap, ◌∙◌, arith}
use Rattle.std.specs.List.{position}
use Rattle.plane_kernels.specs.RowBits.{rows_held}
use Rattle.plane_kernels.proofs.Evens.{none_in}
use Rattle.plane_kernels.proofs.row_bits.RowBits.first_one.Goals.{else-bit-via-then-bit+else-rows-gt0, else-bit-via-else-bit}
use Rattle.plane_kernels.proofs.row_bits.RowBits.first_one.Goals as goal

pub returns-else-bit-clause-first : goal.returns-else-bit-clause-first
returns-else-bit-clause-first c =
    let held = sym c.self.view_is ∙ ap rows_held c.in-Even.is in
    elim c.else-bit.branch [
      | else-bit-via-then-bit+else-rows-gt0 w ↦ (let none : c.in-Even.rows ≡ 0 = omega (arith, w.if-rows-gt0.false) in sym (ap (position (λ b. b)) (held ∙ ap (λ n. replicate n c.in-Even.bit) none)))
      | else-bit-via-else-bit w ↦ sym (ap (position (λ b. b)) (held ∙ ap (replicate c.in-Even.rows) w.if-bit.false) ∙ none_in c.in-Even.rows)
    ]
