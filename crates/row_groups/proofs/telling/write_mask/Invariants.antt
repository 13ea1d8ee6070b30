use Rattle.std.proofs.Common.{◌≡◌, ◌++◌, ◌*◌, take, drop}
use Rattle.std.specs.Simd.Lanes.{zip2}
use Rattle.row_groups.specs.Keeping.{written}
use Rattle.row_groups.proofs.telling.write_mask.Given as goal

abbrev pub invariant-loop-block : goal.invariant-loop-block
invariant-loop-block l = l.cells ≡ take (64 * l.block) (zip2 (written l.number) l.fn.cells l.mask) ++ drop (64 * l.block) l.fn.cells
