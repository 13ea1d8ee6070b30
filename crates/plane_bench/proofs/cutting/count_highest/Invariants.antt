use Rattle.std.proofs.Common.{◌≡◌, ◌≤◌, length, map}
use Rattle.plane_bench.specs.Planes.{is_high}
use Rattle.plane_bench.proofs.cutting.count_highest.Given as goal

abbrev pub invariant-loop : goal.invariant-loop
invariant-loop l = record {
  rows : length l.plane ≡ length l.cells;
  highest : 1 ≤ l.counter → l.plane ≡ map is_high l.cells;
}
