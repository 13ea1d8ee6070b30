use Rattle.std.proofs.Common.{◌≡◌, ◌*◌, take}
use Rattle.aggregates.specs.KeptSums.{IsKept, MovesInBlocks}
use Rattle.aggregates.proofs.kept_sum.KeptSum.move_rows.Given as goal

abbrev pub invariant-loop-block : goal.invariant-loop-block
invariant-loop-block l = record {
  kept : IsKept l.known l.self;
  moves : MovesInBlocks l.mask l.self;
  blocks : l.self.blocks ≡ l.fn.self.blocks;
  moved : take (512 * l.block) l.self.mask ≡ take (512 * l.block) l.mask;
}
