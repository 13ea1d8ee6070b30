use Rattle.std.proofs.Common.{slice_index}
use Rattle.multi_session.specs.Members.{HandedBelow}
use Rattle.multi_session.proofs.members.hand.Given as goal

abbrev pub invariant-loop-number : goal.invariant-loop-number
invariant-loop-number l =
    HandedBelow l.near l.step (slice_index l.columns.places.items l.column) l.columns.places.items l.plane l.columns.known l.fn.members l.members l.number
