use Rattle.std.proofs.Common.{◌≡◌, true, take}
use Rattle.std.specs.List.{list_all}
use Rattle.round_engine.specs.Narrowness.{is_narrow_of}
use Rattle.round_engine.proofs.totals.Totals.is_narrow.Given as goal

abbrev pub invariant-loop-bound : goal.invariant-loop-bound
invariant-loop-bound l = list_all (is_narrow_of l.near.width) (take l.bound-index l.self.bounds.items) ≡ true
