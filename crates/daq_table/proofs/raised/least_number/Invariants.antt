use Rattle.std.proofs.Common.{◌≡◌, pos, fold, get_or, map, take}
use Rattle.std.specs.Int.{int_min}
use Rattle.daq_table.specs.Raised.{lowered}
use Rattle.daq_table.proofs.raised.least_number.Given as goal

abbrev pub invariant-loop-number : goal.invariant-loop-number
invariant-loop-number l = l.best ≡ fold int_min (get_or (map lowered l.numbers) 0 (pos 0)) (map lowered (take l.number-index l.numbers))
