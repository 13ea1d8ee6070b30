use Rattle.std.proofs.Common.{◌&&◌, map, ap, ◌∙◌}
use Rattle.std.specs.Simd.Lanes.{zip2}
use Rattle.kleene_filter.specs.Filters.{is_certain, is_possible}
use Rattle.round_engine.proofs.selection.Selection.select.Goals as goal

pub returns-clause-may : goal.returns-clause-may
returns-clause-may c =
    c.and_into.ensures ∙ ap (λ m. zip2 (λ a b. a && b) m c.possible.result.now) (c.copy_from.ensures ∙ c.may.ensures)
    ∙ ap (zip2 (λ a b. a && b) (map is_possible c.args.filter.now.truths)) c.possible.ensures

pub returns-clause-must : goal.returns-clause-must
returns-clause-must c =
    c.and_into-2.ensures ∙ ap (λ m. zip2 (λ a b. a && b) m c.sure.result.now) (c.copy_from-2.ensures ∙ c.must.ensures)
    ∙ ap (zip2 (λ a b. a && b) (map is_certain c.args.filter.now.truths)) c.sure.ensures
