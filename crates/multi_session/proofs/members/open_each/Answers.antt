use Rattle.multi_session.proofs.Opening.{open_more}
use Rattle.multi_session.proofs.members.open_each.Goals as goal

pub loop-query-preserved : goal.loop-query-preserved
loop-query-preserved c =
    open_more c.loop-query.yielded c.in-Some.query c.args.near c.args.columns.now.places.items c.args.columns.now.known c.loop-query.members.items c.push.new.self.items
    c.in_ok-open.field-0 c.loop-query.invariant c.in_ok-push.ensures.items c.in_ok-open.ensures
