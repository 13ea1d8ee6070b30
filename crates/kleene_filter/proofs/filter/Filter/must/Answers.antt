use Rattle.std.proofs.Common.{map, ◌∙◌, ap}
use Rattle.kleene_filter.specs.Filters.{Judgement, is_certain}
use Rattle.kleene_filter.proofs.TruthBits.{certain_mask}
use Rattle.kleene_filter.proofs.filter.Filter.must.Goals as goal

pub returns : goal.returns
returns c = (let masks = c.self.inside.truths.masks in certain_mask masks.must masks.may c.self.invariant.nested ∙ ap (map is_certain) (ap (λ (f : Judgement). f.truths) c.self.view_is))
