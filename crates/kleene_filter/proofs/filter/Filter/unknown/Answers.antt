use Rattle.std.proofs.Common.{◌≡◌, ◌-◌, count_by, ap, ◌∙◌, arith}
use Rattle.std.specs.Simd.Lanes.{zip2}
use Rattle.query_model.specs.Truths.{truth_from}
use Rattle.kleene_filter.specs.Filters.{is_unknown, Judgement}
use Rattle.kleene_filter.proofs.TruthBits.{unknown_count}
use Rattle.kleene_filter.proofs.filter.Filter.unknown.Goals as goal

pub overflow_sub-result : goal.overflow_sub-result
overflow_sub-result c =
    let masks = c.self.inside.truths.masks in
    let kept = c.self.invariant.kept in
    omega (arith, unknown_count masks.must masks.may c.self.invariant.nested, kept.certain, kept.possible)

pub returns : goal.returns
returns c =
    let truths = c.self.inside.truths in
    let kept = c.self.invariant.kept in
    let here : truths.possible - truths.certain ≡ count_by is_unknown (zip2 truth_from truths.masks.must truths.masks.may) =
    omega (arith, unknown_count truths.masks.must truths.masks.may c.self.invariant.nested, kept.certain, kept.possible) in
    here ∙ ap (count_by is_unknown) (ap (λ (f : Judgement). f.truths) c.self.view_is)
