use Rattle.std.proofs.Common.{◌≡◌, ◌∙◌, [], ap, get_or, sym}
use Rattle.std.proofs.lemmas.List.{get_or_default}
use Rattle.report_parts.proofs.Ordered.{seen_there}
use Rattle.report_parts.specs.Tags.{part_at}
use Rattle.report_parts.specs.Told.{Told, nothing_told}
use Rattle.report_parts.proofs.parts.place_near.Goals as goal

pub returns-then-has_tag : goal.returns-then-has_tag
returns-then-has_tag c =
    let part = c.index-parts-place.result in
    let parts = c.args.parts.now in
    let is : part ≡ get_or parts c.args.place part = cc in
    let there : part_at c.args.place parts ≡ part =
    get_or_default parts c.args.place (nothing_told []) part c.if-place-parts.true ∙ sym is in
    seen_there c.args.tag.now parts c.args.place c.requires c.if-place-parts.true
    (ap (λ (p : Told). p.tag) there ∙ c.has_tag.ensures.0 c.if-has_tag.true)
