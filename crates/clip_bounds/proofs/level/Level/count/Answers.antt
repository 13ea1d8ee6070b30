use Rattle.std.proofs.Common.{◌==◌, cond, arith, ◌∙◌}
use Rattle.aggregates.proofs.BlockSums.{all_blocks, next_block}
use Rattle.clip_bounds.proofs.level.Level.count.Goals as goal

pub loop-block-preserved : goal.loop-block-preserved
loop-block-preserved c =
    let column = c.args.known.now in (
      omega (arith, c.loop-block.invariant.0, c.count_in_block-count.ensures.count, next_block c.args.mask.now column.known.prefixes (λ p. cond (p == c.args.self.now.prefix) 1 0) c.loop-block.block c.requires.rows),
      omega (arith, c.loop-block.invariant.1, c.count_in_block-count.ensures.few),
    )

pub returns-clause-count : goal.returns-clause-count
returns-clause-count c =
    c.loop-block.invariant.0 ∙ all_blocks c.args.mask.now c.args.known.now.known.prefixes (λ p. cond (p == c.args.self.now.prefix) 1 0) c.loop-block.block c.requires.rows (omega arith)
