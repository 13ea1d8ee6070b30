use Rattle.std.proofs.Common.{List, subst, MatchBool}
use Rattle.query_model.specs.declared.query.ItemKind.{ItemKind}
use Rattle.report_parts.proofs.Turns.{else_decides, refused_when, unchanged}
use Rattle.report_parts.specs.Told.{GroupsGoOn, PassesBehindSection, Told, block_done}
use Rattle.report_parts.proofs.part.Part.take_between.Goals as goal

pub returns-clause-taken : goal.returns-clause-taken
returns-clause-taken c =
    let mid = c.take_group_or_next.new.self in
    let line = c.args.line.now in
    else_decides c.passes_behind_section.result (λ told next. GroupsGoOn c.args.shape.now told (block_done told) line next)
    (λ told next. PassesBehindSection c.args.shape.now.kinds told line next) c.args.self.now mid mid
    (refused_when _ _ _ c.if-branch.false c.in_ok-take_group_or_next.ensures.taken)
    (unchanged c.passes_behind_section.result (λ next. PassesBehindSection c.args.shape.now.kinds mid line next) mid
    (subst (λ (kinds : List ItemKind). MatchBool c.passes_behind_section.result (PassesBehindSection kinds mid line mid)
    ((next : Told) → PassesBehindSection kinds mid line next → ⊥)) c.as_slice.ensures c.passes_behind_section.ensures))
