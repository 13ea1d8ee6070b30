use Rattle.std.proofs.Common.{◌-◌, ◌*◌, ap, ◌∙◌, arith}
use Rattle.std.specs.Simd.Lanes.{put_chunk}
use Rattle.plane_kernels.proofs.BlockLemmas.{trimmed-whole}
use Rattle.plane_kernels.proofs.blocks.set_block.Goals as goal

pub returns-then-rows-block-ge512 : goal.returns-then-rows-block-ge512
returns-then-rows-block-ge512 c =
    c.set_eight.ensures ∙ ap (put_chunk (8 * c.args.block) c.args.words.now) (trimmed-whole 8 (c.args.rows - 512 * c.args.block) c.args.eight.now (omega arith) (omega arith))
