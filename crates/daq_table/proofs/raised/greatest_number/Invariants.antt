use Rattle.std.proofs.Common.{◌≡◌, pos, fold, get_or, map, take}
use Rattle.std.specs.Int.{int_max}
use Rattle.daq_table.specs.Raised.{lowered}
use Rattle.daq_table.proofs.raised.greatest_number.Given as goal

abbrev pub invariant-loop-number : goal.invariant-loop-number
invariant-loop-number l = l.best ≡ fold int_max (get_or (map lowered l.numbers) 0 (pos 0)) (map lowered (take l.number-index l.numbers))
