use Rattle.std.proofs.Common.{take, IsTrue}
use Rattle.daq_table.specs.HeadFacts.{all_differ}
use Rattle.daq_table.specs.Schemas.{item_names}
use Rattle.daq_table.proofs.schema.first_repeat.Given as goal

abbrev pub invariant-loop-second : goal.invariant-loop-second
invariant-loop-second l = IsTrue (all_differ (item_names (take l.second l.items)))
