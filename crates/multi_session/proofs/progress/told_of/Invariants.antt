use Rattle.multi_session.specs.Members.{stages_of}
use Rattle.multi_session.specs.Sessions.{TellsColumns}
use Rattle.multi_session.proofs.progress.told_of.Given as goal

abbrev pub invariant-loop-column : goal.invariant-loop-column
invariant-loop-column l = TellsColumns l.near l.columns.places.items (stages_of l.columns.known l.members) l.column l.unread l.read l.role l.gives_values
