use Rattle.std.proofs.Common.{refl, sym, ◌∙◌}
use Rattle.std.proofs.lemmas.Option.{none-some, same_Some}
use Rattle.report_text.proofs.EndPlaces.{single_found, single_laid}
use Rattle.report_text.proofs.layouts.single.Goals as goal

pub returns-in_err-null-clause-read : goal.returns-in_err-null-clause-read
returns-in_err-null-clause-read c = λ null end h k e.
    (let found = single_found c.args.text.now c.around_front.result.0.now c.around_front.result.1.now c.nullity.result null end
    c.around_front.ensures.front c.around_front.ensures.rest c.nullity.ensures.never c.nullity.ensures.possibly h k e in
    absurd (none-some null (sym c.in_err-null.was ∙ found.0)))

pub returns-clause-read : goal.returns-clause-read
returns-clause-read c = λ null end h k e.
    (let found = single_found c.args.text.now c.around_front.result.0.now c.around_front.result.1.now c.nullity.result null end
    c.around_front.ensures.front c.around_front.ensures.rest c.nullity.ensures.never c.nullity.ensures.possibly h k e in
    record { word = same_Some _ _ (sym c.in_ok-null.was ∙ found.0); single_so = λ _. refl; ends = λ _. (found.1, found.1) })

pub returns-clause-laid : goal.returns-clause-laid
returns-clause-laid c =
    single_laid c.in_ok-null.null c.around_front.result.0.now c.around_front.result.1.now c.args.text.now c.in_ok-null.ensures.is c.around_front.ensures.whole
