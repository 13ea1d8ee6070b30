use Rattle.std.proofs.Common.{◌≡◌, ◌-◌, Bool, false, count_by, sym, ap, ◌∙◌, arith}
use Rattle.plane_kernels.specs.Rows.{kept_rows}
use Rattle.topk_bounds.proofs.Marks.{kept_parts}
use Rattle.topk_bounds.proofs.cut.count_first.Goals as goal

pub overflow_sub-result : goal.overflow_sub-result
overflow_sub-result c = omega (arith, kept_parts c.args.counted.now c.args.plane.now c.requires.rows, c.requires.there, c.count_plane-ones.ensures)

pub returns-else-first : goal.returns-else-first
returns-else-first c =
    let rest : c.args.there - c.count_plane-ones.result ≡ count_by (λ b. b) (kept_rows false c.args.counted.now c.args.plane.now) =
    omega (arith, kept_parts c.args.counted.now c.args.plane.now c.requires.rows, c.requires.there, c.count_plane-ones.ensures) in
    rest ∙ ap (λ (d : Bool). count_by (λ b. b) (kept_rows d c.args.counted.now c.args.plane.now)) (sym c.if-first.false)
