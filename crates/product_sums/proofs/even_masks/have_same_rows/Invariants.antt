use Rattle.std.proofs.Common.{◌≡◌, ◌*◌, take}
use Rattle.product_sums.proofs.even_masks.have_same_rows.Given as goal

abbrev pub invariant-loop-block : goal.invariant-loop-block
invariant-loop-block l = take (512 * l.block) l.mask ≡ take (512 * l.block) l.other
