use Rattle.std.proofs.Common.{not, map, sym, ap, ◌∙◌}
use Rattle.plane_kernels.specs.RowBits.{rows_held}
use Rattle.plane_kernels.proofs.Evens.{not_even}
use Rattle.plane_kernels.proofs.row_bits.RowBits.not_into.Goals.{in-Even, in-Written}
use Rattle.plane_kernels.proofs.row_bits.RowBits.not_into.Goals as goal

pub returns : goal.returns
returns c =
    elim c.match-self.branch [
      | in-Even w ↦ ap (λ s. rows_held s.state) w.self-inside-is ∙ not_even w.in-Even.rows w.in-Even.bit ∙ ap (map not) (sym (ap rows_held w.in-Even.is) ∙ c.self.view_is)
      | in-Written w ↦ ap (λ s. rows_held s.state) w.self-inside-is ∙ w.not_into.ensures ∙ ap (map not) (sym (ap rows_held w.in-Written.is) ∙ c.self.view_is)
    ]
