use Rattle.std.proofs.Common.{◌*◌, min}
use Rattle.round_engine.specs.Rankings.{AreKeysNear}
use Rattle.round_engine.proofs.ranking.Ranking.keys_are_near.Given as goal

abbrev pub invariant-loop-block : goal.invariant-loop-block
invariant-loop-block l = AreKeysNear l.width l.columns l.self 0 (min (64 * l.block) l.columns.frame.rows)
