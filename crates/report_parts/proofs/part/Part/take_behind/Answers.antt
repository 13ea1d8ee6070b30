use Rattle.std.proofs.Common.{List, subst, MatchBool}
use Rattle.query_model.specs.declared.query.ItemKind.{ItemKind}
use Rattle.report_parts.proofs.Turns.{else_decides, unchanged}
use Rattle.report_parts.specs.Told.{GoesOn, PassesBehind, Told}
use Rattle.report_parts.proofs.part.Part.take_behind.Goals as goal

pub returns-clause-taken : goal.returns-clause-taken
returns-clause-taken c =
    let mid = c.take_next.new.self in
    let line = c.args.line.now in
    else_decides c.passes_behind.result (λ told next. GoesOn c.args.shape.now told line next) (λ told next. PassesBehind c.args.shape.now.kinds told line next)
    c.args.self.now mid mid c.if-take_next.ensures.taken
    (unchanged c.passes_behind.result (λ next. PassesBehind c.args.shape.now.kinds mid line next) mid
    (subst (λ (kinds : List ItemKind). MatchBool c.passes_behind.result (PassesBehind kinds mid line mid) ((next : Told) → PassesBehind kinds mid line next → ⊥))
    c.as_slice.ensures c.passes_behind.ensures))
