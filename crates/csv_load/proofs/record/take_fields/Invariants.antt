use Rattle.csv_load.specs.Kept.{kept_fields}
use Rattle.csv_load.specs.States.{TookBelow}
use Rattle.csv_load.proofs.record.take_fields.Given as goal

abbrev pub invariant-loop-number : goal.invariant-loop-number
invariant-loop-number l = TookBelow l.limit l.fn.columns (kept_fields l.schema.items l.fields) l.columns l.number
