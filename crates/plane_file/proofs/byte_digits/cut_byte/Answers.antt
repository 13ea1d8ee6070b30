-- The digits of the next block go behind those that were cut.
use Rattle.std.proofs.Common.{◌∙◌, length, sym, arith}
use Rattle.plane_file.specs.ByteDigits.{digit_blocks}
use Rattle.plane_file.proofs.DigitBlocks.{all_blocks, get_or-digit_blocks, length-digit_blocks, next_block}
use Rattle.plane_file.proofs.byte_digits.cut_byte.Goals as goal

pub loop-block-preserved : goal.loop-block-preserved
loop-block-preserved c =
    let count = length c.args.blocks.now in
    let cells = c.args.cells.now in
    let block = c.loop-block.block in
    next_block (digit_blocks count c.args.byte cells) c.args.blocks.now c.loop-block.blocks block c.block_digits.result (length-digit_blocks count c.args.byte cells)
    (omega (arith, c.loop-block-test.true)) c.loop-block.invariant (c.block_digits.ensures ∙ sym (get_or-digit_blocks count c.args.byte cells block (omega (arith, c.loop-block-test.true))))

pub returns : goal.returns
returns c =
    let count = length c.args.blocks.now in
    all_blocks (digit_blocks count c.args.byte c.args.cells.now) c.args.blocks.now c.loop-block.blocks c.loop-block.block (length-digit_blocks count c.args.byte c.args.cells.now)
    (omega (arith, c.loop-block-test.false)) c.loop-block.invariant
