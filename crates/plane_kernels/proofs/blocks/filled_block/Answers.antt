use Rattle.std.proofs.Common.{length, sym, ◌∙◌, arith}
use Rattle.std.proofs.lemmas.List.{take_all}
use Rattle.plane_kernels.proofs.BlockLemmas.{filled_eight}
use Rattle.plane_kernels.proofs.blocks.filled_block.Goals as goal

pub returns : goal.returns
returns c =
    let words = c.args.words.now in
    filled_eight words c.copy_from_slice.new.self (length words) (omega arith) (c.copy_from_slice.ensures.after ∙ sym (take_all (length words) words (omega arith)))
