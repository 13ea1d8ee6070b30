use Rattle.std.proofs.Common.{sum_by, ap, ◌∙◌, arith}
use Rattle.std.specs.Int.Count.{ones}
use Rattle.std.proofs.lemmas.List.{take_all}
use Rattle.plane_kernels.proofs.block.count_ones.Goals as goal

pub returns : goal.returns
returns c = c.count_eight.ensures ∙ ap (sum_by ones) (take_all 8 c.args.words.now (omega arith))
