use Rattle.round_engine.specs.Rankings.{AreKeysNear}
use Rattle.round_engine.proofs.ranking.Ranking.are_near_in_block.Given as goal

abbrev pub invariant-loop-row : goal.invariant-loop-row
invariant-loop-row l = AreKeysNear l.width l.columns l.self l.first l.row
