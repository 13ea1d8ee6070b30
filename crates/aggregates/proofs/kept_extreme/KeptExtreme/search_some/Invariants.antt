use Rattle.std.proofs.Common.{◌*◌}
use Rattle.aggregates.specs.KeptExtremes.{IsSearched}
use Rattle.aggregates.proofs.kept_extreme.KeptExtreme.search_some.Given as goal

abbrev pub invariant-loop-block : goal.invariant-loop-block
invariant-loop-block l = IsSearched l.extreme l.known l.mask (512 * l.block) l.self l.best
