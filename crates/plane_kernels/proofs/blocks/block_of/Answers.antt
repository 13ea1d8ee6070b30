use Rattle.std.proofs.Common.{◌*◌, ◌++◌, take, replicate, ap, ◌∙◌}
use Rattle.std.proofs.lemmas.List.{take_rest}
use Rattle.plane_kernels.proofs.blocks.block_of.Goals as goal

pub returns-then-rest-lt8 : goal.returns-then-rest-lt8
returns-then-rest-lt8 c = c.filled_block.ensures ∙ ap (λ l. take 8 (l ++ replicate 8 0)) (take_rest c.args.words.now (8 * c.args.block))
