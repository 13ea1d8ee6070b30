use Rattle.std.proofs.Common.{sym, ap, ◌∙◌}
use Rattle.known_column.specs.KnownTables.{lent_table}
use Rattle.round_engine.specs.Engines.{stage_of}
use Rattle.multi_session.proofs.Following.{stage_now}
use Rattle.multi_session.proofs.member.Member.view.Goals as goal

pub returns : goal.returns
returns c =
    let m = c.args.self.now in
    let table = c.args.columns.now.known in
    c.view.ensures ∙ ap (stage_of m.follower.query) (c.lend_some.ensures ∙ ap (lent_table table) c.deref.ensures.value) ∙ sym (stage_now table m c.requires)
