use Rattle.std.specs.Int.Bits.{bit_and}
use Rattle.std.specs.Int.{w64, bit_not}
use Rattle.plane_kernels.proofs.WordSteps.{zip2_of_mapped}
use Rattle.product_sums.proofs.rows.and_not_words.Goals as goal

pub returns : goal.returns
returns c = zip2_of_mapped bit_and (bit_not w64) c.args.words.now c.args.others.now
