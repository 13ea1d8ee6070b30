use Rattle.std.proofs.Common.{◌≡◌, ap, subst, sym, ◌∙◌}
use Rattle.report_parts.specs.Told.{Refuses, TakesAt, Told}
use Rattle.report_parts.specs.declared.part.Place.{Place}
use Rattle.report_parts.specs.declared.part.Place.TheVariants.{Items}
use Rattle.report_parts.proofs.part.Part.take.Goals as goal

pub returns-in-Items-clause-other : goal.returns-in-Items-clause-other
returns-in-Items-clause-other c =
    let here : c.args.self.now.place ≡ Items = sym (ap (λ (told : Told). told.place) c.self.view_is) ∙ c.in-Items.is in
    λ refused. (
      λ query. absurd (let e = sym here ∙ query in cc),
      λ unlisted. absurd (let e = sym here ∙ unlisted.0 in cc),
      subst (λ (place : Place). Refuses (TakesAt place c.args.query.now c.args.shape.now c.args.self.now c.args.line.now) c.args.self.now c.take_line_inside.new.self)
          (sym here) (c.take_line_inside.ensures.other refused),
    )
