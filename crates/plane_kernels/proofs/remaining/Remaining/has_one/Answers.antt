use Rattle.std.proofs.Common.{◌*◌, true, false, length, get_or, sym, ap, ◌∙◌, arith}
use Rattle.plane_kernels.specs.Rows.{kept_rows}
use Rattle.plane_kernels.proofs.RemainingRows.{no_one, none_more}
use Rattle.plane_kernels.proofs.remaining.Remaining.has_one.Goals as goal

pub loop-block-preserved : goal.loop-block-preserved
loop-block-preserved c = none_more c.loop-block.block (kept_rows true c.self.inside.rows c.args.plane.now) c.loop-block.invariant (c.has_one_in.ensures c.if-has_one_in.false)

pub returns : goal.returns
returns c = λ e row on.
    let rows = c.self.inside.rows in
    no_one rows c.args.plane.now (512 * c.loop-block.block) (c.requires ∙ sym (ap length c.self.view_is)) (omega (arith, c.self.invariant.room, c.loop-block-test.false, c.rows-block-end.ensures)) c.loop-block.invariant row
    (ap (λ l. get_or l row false) c.self.view_is ∙ on)
