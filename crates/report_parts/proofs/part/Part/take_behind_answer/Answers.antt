use Rattle.std.proofs.Common.{List, inl, subst}
use Rattle.query_model.specs.declared.query.ItemKind.{ItemKind}
use Rattle.report_parts.proofs.Turns.{else_decides_ok, refused_when, taken_when}
use Rattle.report_parts.specs.Told.{Refuses, TakesExtra, TakesRest}
use Rattle.report_parts.proofs.part.Part.take_behind_answer.Goals as goal

pub returns-then-branch-clause-taken : goal.returns-then-branch-clause-taken
returns-then-branch-clause-taken c =
    inl (subst (λ (kinds : List ItemKind). TakesExtra kinds c.args.self.now c.args.line.now c.take_extra.new.self) c.as_slice.ensures
    (taken_when _ _ _ c.if-branch.true c.in_ok-take_extra.ensures.taken))

pub returns-clause-taken : goal.returns-clause-taken
returns-clause-taken c =
    let line = c.args.line.now in
    else_decides_ok c.take_rest.result (λ told next. TakesExtra c.args.shape.now.kinds told line next) (λ told next. TakesRest c.args.shape.now told line next)
    c.args.self.now c.take_extra.new.self c.take_rest.new.self
    (subst (λ (kinds : List ItemKind). Refuses (TakesExtra kinds c.args.self.now line) c.args.self.now c.take_extra.new.self) c.as_slice.ensures
    (refused_when _ _ _ c.if-branch.false c.in_ok-take_extra.ensures.taken))
    c.take_rest.ensures.taken
