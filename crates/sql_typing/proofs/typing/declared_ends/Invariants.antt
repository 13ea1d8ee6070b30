-- The ends of the columns so far.
use Rattle.std.proofs.Common.{◌≡◌, map, take}
use Rattle.std.specs.Prelude.{slice_index_or}
use Rattle.daq_table.specs.Tables.{ends_of, no_ends}
use Rattle.sql_typing.proofs.typing.declared_ends.Given as goal

abbrev pub invariant-loop-place : goal.invariant-loop-place
invariant-loop-place l = l.all.items ≡ map (λ c. slice_index_or (map ends_of l.table) c no_ends) (take l.place-index l.columns)
