use Rattle.std.proofs.Common.{◌≡◌, length}
use Rattle.product_sums.specs.Fetched.{AreFetchedBelow}
use Rattle.product_sums.proofs.fetched.fetch_planes.Given as goal

abbrev pub invariant-loop-j : goal.invariant-loop-j
invariant-loop-j l = (length l.room.planes ≡ 32) × AreFetchedBelow l.known l.block l.room.planes l.j
