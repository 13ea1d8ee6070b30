use Rattle.std.proofs.Common.{map, ◌∙◌, ap}
use Rattle.kleene_filter.specs.Filters.{Judgement, is_possible}
use Rattle.kleene_filter.proofs.TruthBits.{possible_mask}
use Rattle.kleene_filter.proofs.filter.Filter.may.Goals as goal

pub returns : goal.returns
returns c = (let masks = c.self.inside.truths.masks in possible_mask masks.must masks.may c.self.invariant.nested ∙ ap (map is_possible) (ap (λ (f : Judgement). f.truths) c.self.view_is))
