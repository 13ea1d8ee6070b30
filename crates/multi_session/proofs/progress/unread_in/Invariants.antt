use Rattle.std.proofs.Common.{◌≡◌, drop, slice_index}
use Rattle.multi_session.specs.Members.{stages_of}
use Rattle.multi_session.specs.Sessions.{unread_in}
use Rattle.multi_session.proofs.progress.unread_in.Given as goal

abbrev pub invariant-loop-member : goal.invariant-loop-member
invariant-loop-member l =
    unread_in l.fn.near (slice_index l.columns.places.items l.column) (stages_of l.columns.known (drop l.member-index l.members))
    ≡ unread_in l.fn.near (slice_index l.columns.places.items l.column) (stages_of l.columns.known l.members)
