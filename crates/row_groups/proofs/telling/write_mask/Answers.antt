use Rattle.std.proofs.Common.{◌≡◌, ◌*◌, length, sym, arith}
use Rattle.std.specs.Simd.Lanes.{zip2}
use Rattle.std.proofs.lemmas.Simd.{length-zip2}
use Rattle.plane_kernels.proofs.WordSteps.{all_words}
use Rattle.row_groups.specs.Keeping.{written}
use Rattle.row_groups.proofs.Inserting.{next_block}
use Rattle.row_groups.proofs.telling.write_mask.Goals as goal

pub loop-block-preserved : goal.loop-block-preserved
loop-block-preserved c =
    let below = c.loop-block-test.true in
    next_block (written c.args.number) c.args.cells.now c.loop-block.cells c.write_word.new.cells c.args.mask.now c.word.result c.loop-block.block c.min-end.result c.requires
    (omega (arith, below, c.div_ceil-block-end.ensures)) (omega (arith, c.min-end.ensures)) c.word.ensures c.loop-block.invariant c.write_word.ensures

pub returns : goal.returns
returns c =
    let cells = c.args.cells.now in
    let bits = c.args.mask.now in
    let same : length (zip2 (written c.args.number) cells bits) ≡ length cells = length-zip2 (written c.args.number) cells bits (sym c.requires) in
    all_words (zip2 (written c.args.number) cells bits) cells c.loop-block.cells (64 * c.loop-block.block) same (omega arith) c.loop-block.invariant
