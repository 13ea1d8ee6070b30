use Rattle.std.proofs.Common.{◌-◌}
use Rattle.csv_load.proofs.ReadSteps.{HasReadTo}
use Rattle.csv_load.proofs.reading.read_columns.Given as goal

abbrev pub invariant-records : goal.invariant-records
invariant-records l = HasReadTo l.fn.bytes l.fn.schema.items l.fn.limits l.reader.text.now l.from l.records l.columns.items

abbrev pub decreases-records : goal.decreases-records
decreases-records l = 16777218 - l.records
