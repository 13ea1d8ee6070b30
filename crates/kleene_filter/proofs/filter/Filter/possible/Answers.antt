use Rattle.std.proofs.Common.{count_by, ap, ◌∙◌}
use Rattle.kleene_filter.specs.Filters.{is_possible, Judgement}
use Rattle.kleene_filter.proofs.TruthBits.{possible_count}
use Rattle.kleene_filter.proofs.filter.Filter.possible.Goals as goal

pub returns : goal.returns
returns c =
    let masks = c.self.inside.truths.masks in
    c.self.invariant.kept.possible ∙ possible_count masks.must masks.may c.self.invariant.nested ∙ ap (count_by is_possible) (ap (λ (f : Judgement). f.truths) c.self.view_is)
