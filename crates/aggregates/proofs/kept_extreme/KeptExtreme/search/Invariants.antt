use Rattle.std.proofs.Common.{◌≡◌, ◌*◌, length}
use Rattle.aggregates.specs.KeptExtremes.{HoldCandidates, IsSearched}
use Rattle.aggregates.proofs.kept_extreme.KeptExtreme.search.Given as goal

abbrev pub invariant-loop-block : goal.invariant-loop-block
invariant-loop-block l =
    HoldCandidates l.extreme l.known l.may l.must l.self × IsSearched l.extreme l.known l.may (512 * l.block) l.self l.best
    × (length l.self.blocks ≡ length l.initial.self.blocks)
