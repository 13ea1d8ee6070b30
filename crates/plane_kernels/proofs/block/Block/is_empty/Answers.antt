use Rattle.std.proofs.Common.{false, length, replicate, sym, ap, ◌∙◌}
use Rattle.std.proofs.lemmas.Bool.{eqb-true}
use Rattle.std.proofs.lemmas.List.{length-replicate}
use Rattle.plane_kernels.proofs.BlockRows.{empty_rows}
use Rattle.plane_kernels.proofs.block.Block.is_empty.Goals as goal

pub returns : goal.returns
returns c = λ empty.
    let n = c.self.inside.rows in
    let none = sym c.self.view_is ∙ empty_rows n c.self.inside.words c.self.invariant (eqb-true _ _ empty) in
    none ∙ ap (λ k. replicate k false) (sym (ap length none ∙ length-replicate n false))
