use Rattle.std.proofs.Common.{sym, subst}
use Rattle.plane_kernels.specs.Remaining.{AreBlocksOf}
use Rattle.plane_kernels.proofs.RemainingRows.{blocks_stay}
use Rattle.plane_kernels.proofs.remaining.keep_whole.Goals as goal

pub returns-clause-blocks : goal.returns-clause-blocks
returns-clause-blocks c = subst (λ l. AreBlocksOf l c.args.blocks.now) (sym c.keep.ensures) (blocks_stay c.args.bit c.args.rows.now c.args.plane.now c.args.blocks.now c.requires.plane c.requires.blocks)
