use Rattle.std.proofs.Common.{◌&&◌, not, map, ap, ◌∙◌}
use Rattle.std.specs.Simd.Lanes.{zip2}
use Rattle.plane_kernels.proofs.Evens.{or_not}
use Rattle.plane_kernels.proofs.row_bits.RowBits.or_not_into.Goals as goal

pub returns : goal.returns
returns c =
    c.not_into-2.ensures ∙ ap (map not) (c.and_into.ensures ∙ ap (λ l. zip2 (λ a b. a && b) l c.args.other.now) c.not_into.ensures) ∙ or_not c.args.self.now c.args.other.now
