use Rattle.std.proofs.Common.{List, refl, subst}
use Rattle.query_model.specs.declared.query.ItemKind.{ItemKind}
use Rattle.report_parts.proofs.Turns.{else_decides_ok}
use Rattle.report_parts.specs.Told.{Closes, PassesInside, Told}
use Rattle.report_parts.proofs.part.Part.take_rest.Goals as goal

pub returns-clause-taken : goal.returns-clause-taken
returns-clause-taken c =
    let line = c.args.line.now in
    else_decides_ok c.take_closing.result (λ told next. PassesInside c.args.shape.now.kinds told line next) (λ told next. Closes c.args.shape.now told line next)
    c.args.self.now c.args.self.now c.take_closing.new.self
    (refl, subst (λ (kinds : List ItemKind). (next : Told) → PassesInside kinds c.args.self.now line next → ⊥) c.as_slice.ensures c.if-passes_inside.ensures)
    c.take_closing.ensures.taken
