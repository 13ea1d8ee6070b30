use Rattle.std.proofs.Common.{◌≡◌, ◌≤◌, ◌-◌, ◌*◌, length, take}
use Rattle.plane_kernels.specs.Bytes.{bytes_of_rows}
use Rattle.tests_columns.proofs.kernel_bytes.load_pieces.Given as goal

abbrev pub invariant-loop-first : goal.invariant-loop-first
invariant-loop-first l = record {
  within : l.first ≤ l.count;
  rows : length l.plane ≡ length l.fn.plane;
  read : take (8 * l.first) (bytes_of_rows l.plane) ≡ take (8 * l.first) l.bytes;
}

abbrev pub decreases-loop-first : goal.decreases-loop-first
decreases-loop-first l = l.count - l.first
