use Rattle.std.proofs.Common.{◌*◌}
use Rattle.aggregates.specs.ExtremeRows.{IsBestAmong}
use Rattle.aggregates.proofs.extreme_rows.extreme_row.Given as goal

abbrev pub invariant-loop-block : goal.invariant-loop-block
invariant-loop-block l = IsBestAmong l.extreme l.known l.mask 0 (512 * l.block) l.best
