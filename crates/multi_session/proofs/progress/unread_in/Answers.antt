-- A query that awaits a plane of the column knows of it what the session does.
use Rattle.std.proofs.Common.{sym, ◌∙◌}
use Rattle.std.proofs.lemmas.List.{get_or_read}
use Rattle.multi_session.proofs.Found.{few_here, unread_here}
use Rattle.multi_session.proofs.progress.unread_in.Goals as goal

pub returns-then-is_some-clause-unread : goal.returns-then-is_some-clause-unread
returns-then-is_some-clause-unread c =
    let places = c.args.columns.now.places.items in
    let kept = c.requires.kept in
    let there = get_or_read places c.args.column c.index.result.now c.requires.column c.index.ensures 0 in
    unread_here c.args.near kept.1.0 c.args.column places c.args.columns.now.known c.args.members.now kept.0 c.requires.column kept.1.1 c.loop-member.member-index c.member-item.result
    c.loop-member-test.true c.member-item.is c.index.result.now there c.awaited.result c.awaited.ensures (sym c.is_some.ensures ∙ c.if-is_some.true) c.unread.result c.unread.ensures

pub returns-then-is_some-clause-few : goal.returns-then-is_some-clause-few
returns-then-is_some-clause-few c =
    let places = c.args.columns.now.places.items in
    let kept = c.requires.kept in
    let there = get_or_read places c.args.column c.index.result.now c.requires.column c.index.ensures 0 in
    few_here c.args.near kept.1.0 c.args.column places c.args.columns.now.known c.args.members.now kept.0 c.requires.column kept.1.1 c.loop-member.member-index c.member-item.result
    c.loop-member-test.true c.member-item.is c.index.result.now there c.awaited.result c.awaited.ensures (sym c.is_some.ensures ∙ c.if-is_some.true) c.unread.result c.unread.ensures
