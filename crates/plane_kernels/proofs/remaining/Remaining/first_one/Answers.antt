use Rattle.std.proofs.Common.{length, refl, ap, ◌∙◌, arith}
use Rattle.std.specs.List.{position}
use Rattle.plane_kernels.proofs.Evens.{none_there}
use Rattle.plane_kernels.proofs.RemainingRows.{none_before, none_more}
use Rattle.plane_kernels.proofs.remaining.Remaining.first_one.Goals as goal

pub loop-block-preserved : goal.loop-block-preserved
loop-block-preserved c = none_more c.loop-block.block c.self.inside.rows c.loop-block.invariant (c.has_row_in.ensures c.if-has_row_in.false)

pub returns : goal.returns
returns c =
    let rows = c.self.inside.rows in
    let room = c.self.invariant.room in
    none_there (length rows) rows (none_before rows (length rows) (omega arith) (λ r h. c.loop-block.invariant r (omega (arith, h, room, c.loop-block-test.false, c.rows-block-end.ensures)))) refl
    ∙ ap (position (λ b. b)) c.self.view_is
