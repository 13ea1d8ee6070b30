use Rattle.std.proofs.Common.{◌≡◌, List, ◌++◌}
use Rattle.query_model.specs.Bounds.{Pair}
use Rattle.aggregates.specs.Tallies.{tally_of}
use Rattle.aggregates.proofs.BlockAdding.{pairs_to}
use Rattle.aggregates.proofs.tally.Tally.add_block.Given as goal

abbrev pub invariant-loop-row : goal.invariant-loop-row
invariant-loop-row l = (ps : List Pair) → l.fn.self ≡ tally_of l.kind ps → l.self ≡ tally_of l.kind (ps ++ pairs_to l.may l.must l.spans l.row)
