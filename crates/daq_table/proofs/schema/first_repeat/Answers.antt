use Rattle.std.proofs.Common.{sym, arith}
use Rattle.daq_table.proofs.Repeats.{differ_more, repeat_found}
use Rattle.daq_table.proofs.schema.first_repeat.Goals as goal

pub returns-in-Some : goal.returns-in-Some
returns-in-Some c =
    repeat_found c.args.items.now c.in-Some.first c.loop-second.second c.index-items-second.result c.name.result.now (omega arith) c.index-items-second.is c.name.ensures (sym c.in-Some.ensures) c.loop-second.invariant

pub loop-second-preserved : goal.loop-second-preserved
loop-second-preserved c =
    differ_more c.args.items.now c.loop-second.second c.index-items-second.result c.name.result.now (omega arith) c.index-items-second.is c.name.ensures (sym c.in_default.ensures) c.loop-second.invariant
