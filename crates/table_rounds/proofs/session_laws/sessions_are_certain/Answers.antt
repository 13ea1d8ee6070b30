use Rattle.table_rounds.proofs.Alone.{sessions_are_certain}
use Rattle.table_rounds.proofs.session_laws.sessions_are_certain.Goals as goal

pub returns : goal.returns
returns c = sessions_are_certain c.valid_queries_name_columns.ensures c.rounds_are_certain.ensures
