use Rattle.std.specs.List.{All}
use Rattle.daq_table.specs.declared.table_head.Head.{Head}
use Rattle.query_model.specs.Validity.{IsValid}
use Rattle.multi_session.specs.Members.{AreOpened, AreUnread}
use Rattle.multi_session.proofs.members.open_each.Given as goal

abbrev pub invariant-loop-query : goal.invariant-loop-query
invariant-loop-query l = (head : Head) → All (IsValid head) l.yielded → AreUnread head l.columns.places.items l.columns.known →
    AreOpened l.yielded head l.near l.columns.places.items l.columns.known l.members.items
