-- After a round or more the plane has the highest digits.
use Rattle.std.proofs.Common.{◌∙◌, arith}
use Rattle.plane_bench.specs.Planes.{is_high}
use Rattle.plane_bench.proofs.Counts.{count_of_all}
use Rattle.plane_bench.proofs.cutting.count_highest.Goals as goal

pub returns : goal.returns
returns c = c.count_plane.ensures ∙ count_of_all is_high c.args.cells.now c.in_ok-all.all c.loop.plane c.in_ok-all.ensures (c.loop.invariant.highest (omega arith))
