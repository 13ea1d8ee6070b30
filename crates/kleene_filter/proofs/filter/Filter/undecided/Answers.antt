use Rattle.std.proofs.Common.{◌≡◌, List, Bool, map, ap, subst, ◌∙◌}
use Rattle.kleene_filter.specs.Filters.{is_certain, is_possible, AreSettled, Judgement}
use Rattle.kleene_filter.proofs.TruthBits.{certain_mask, possible_mask}
use Rattle.kleene_filter.proofs.filter.Filter.undecided.Goals as goal

pub returns : goal.returns
returns c =
    let masks = c.self.inside.truths.masks in
    let blocks = c.self.inside.truths.undecided in
    let nested = c.self.invariant.nested in
    let must : masks.must ≡ map is_certain c.args.self.now.truths = certain_mask masks.must masks.may nested ∙ ap (map is_certain) (ap (λ (f : Judgement). f.truths) c.self.view_is) in
    let may : masks.may ≡ map is_possible c.args.self.now.truths = possible_mask masks.must masks.may nested ∙ ap (map is_possible) (ap (λ (f : Judgement). f.truths) c.self.view_is) in
    subst (λ (m : List Bool). AreSettled (map is_certain c.args.self.now.truths) m blocks) may (subst (λ (m : List Bool). AreSettled m masks.may blocks) must c.self.invariant.kept.settled)
