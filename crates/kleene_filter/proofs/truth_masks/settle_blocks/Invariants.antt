use Rattle.std.proofs.Common.{◌≡◌, length}
use Rattle.kleene_filter.specs.Filters.{AreSettled}
use Rattle.kleene_filter.proofs.truth_masks.settle_blocks.Given as goal

abbrev pub invariant-loop-block : goal.invariant-loop-block
invariant-loop-block l = record {
  blocks : length l.undecided ≡ length l.fn.undecided;
  settled : AreSettled l.masks.must l.masks.may l.undecided;
}
