use Rattle.std.proofs.Common.{◌≡◌, ◌≤◌, ◌<◌, ◌+◌, ℕ, [], length, get_or}
use Rattle.plane_kernels.specs.Rows.{kept_rows}
use Rattle.row_groups.specs.Keeping.{HaveRows, digit_in, without_digit}
use Rattle.row_groups.proofs.parting.part_first.Given as goal

abbrev pub invariant-loop-done : goal.invariant-loop-done
invariant-loop-done l = record {
  count : length l.masks ≡ length l.fn.masks;
  long : HaveRows (length l.plane) l.masks;
  still : (k : ℕ) → k + l.done < l.cells → get_or l.masks k [] ≡ get_or l.fn.masks k [];
  parted : (k : ℕ) → k < l.cells → l.cells ≤ k + l.done → get_or l.masks k [] ≡ kept_rows (digit_in l.shift k) (get_or l.fn.masks (without_digit l.shift k) []) l.plane;
}
