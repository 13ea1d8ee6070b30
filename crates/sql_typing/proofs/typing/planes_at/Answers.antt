-- A number that names no column has no planes.
use Rattle.sql_typing.proofs.Planes.{no_column, outside}
use Rattle.sql_typing.proofs.typing.planes_at.Goals as goal

pub returns-in-None-get-clause-planes : goal.returns-in-None-get-clause-planes
returns-in-None-get-clause-planes c = outside c.args.table.now c.args.columns.now c.args.number c.in-Some.place.now c.in-Some.ensures.lookup.3.0 c.in-Some.ensures.lookup.1 c.in-None-get.ensures.lookup.3

pub returns-in-None-clause-planes : goal.returns-in-None-clause-planes
returns-in-None-clause-planes c = no_column c.args.table.now c.args.columns.now c.args.number c.in-None.ensures.lookup.3
