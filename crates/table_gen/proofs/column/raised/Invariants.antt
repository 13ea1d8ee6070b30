use Rattle.std.proofs.Common.{◌≡◌, map, take}
use Rattle.daq_table.specs.Raised.{lowered}
use Rattle.table_gen.proofs.column.raised.Given as goal

abbrev pub invariant-loop-number : goal.invariant-loop-number
invariant-loop-number l = map lowered l.cells.items ≡ take l.number-index l.numbers
