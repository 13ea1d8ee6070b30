use Rattle.std.proofs.Common.{refl}
use Rattle.std.specs.Simd.Lanes.{chunk}
use Rattle.std.proofs.lemmas.Simd.{length-chunk}
use Rattle.plane_kernels.proofs.Packing.{digits_of_lanes}
use Rattle.plane_kernels.proofs.words.gather_some.Goals as goal

pub returns : goal.returns
returns c = digits_of_lanes (chunk c.args.at 16 c.args.cells.now) c.args.shift _ (length-chunk c.args.at 16 c.args.cells.now c.requires.within) c.requires.shift refl
