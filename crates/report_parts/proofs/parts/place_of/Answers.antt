use Rattle.std.proofs.Common.{rules}
use Rattle.std.proofs.lemmas.Fn.{always_returns_same}
use Rattle.report_parts.proofs.Ordered.{searched}
use Rattle.report_parts.specs.Tags.{against}
use Rattle.report_parts.proofs.parts.place_of.Goals as goal

pub returns : goal.returns
returns c =
    searched c.args.tag.now c.args.parts.now c.binary_search_by.result c.requires c.binary_search_by.ensures.bound
    (c.binary_search_by.ensures.position (against c.args.tag.now) (always_returns_same _ _ _ (λ a r g called. search rules)))
