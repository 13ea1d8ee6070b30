use Rattle.std.proofs.Common.{◌≡◌, Bool, List, ℕ, codes, IfSome, sym, subst, ◌∙◌}
use Rattle.std.proofs.lemmas.Slice.Eq.{bytes_eq-Decides}
use Rattle.report_text.proofs.EndPlaces.{inner_is, is_null}
use Rattle.report_text.specs.Layouts.{HasLayout, laid_text}
use Rattle.report_text.proofs.layouts.lay.Goals as goal

pub returns-then-eq-clause-read : goal.returns-then-eq-clause-read
returns-then-eq-clause-read c = λ null equal low high h j same e.
    (let text : c.args.text.now ≡ codes "null" = (bytes_eq-Decides c.args.text.now c.as_slice.result.now).0 (sym c.if-eq.ensures) ∙ c.as_slice.ensures in
    let none = is_null null equal low high h (e ∙ text) in
    record { word = sym none; single_so = λ k. absurd (k none); ends = λ k. absurd (k none) })

pub returns-in-Some-clause-read : goal.returns-in-Some-clause-read
returns-in-Some-clause-read c = λ null equal low high h j same e.
    (let found = inner_is null equal low high c.in-Some.inner.now h (e ∙ c.in-Some.ensures) in
    subst (λ (b : Bool). HasLayout null b low high c.bracketed.result) (sym found.0) (c.bracketed.ensures.read null low high h j found.1 found.2))

pub returns-then-eq-clause-laid : goal.returns-then-eq-clause-laid
returns-then-eq-clause-laid c = sym ((bytes_eq-Decides c.args.text.now c.as_slice.result.now).0 (sym c.if-eq.ensures) ∙ c.as_slice.ensures)

pub returns-in-Some-clause-laid : goal.returns-in-Some-clause-laid
returns-in-Some-clause-laid c =
    subst (λ (text : List ℕ). IfSome c.bracketed.result (λ layout. laid_text layout ≡ text)) (sym c.in-Some.ensures) c.bracketed.ensures.laid
