use Rattle.std.proofs.Common.{◌≡◌, ◌∙◌, sym, ap}
use Rattle.std.proofs.lemmas.Int.{to_z-of_z}
use Rattle.interval_calc.specs.Intervals.{interval_of}
use Rattle.query_model.specs.Truths.{truth_from}
use Rattle.kleene_filter.specs.ByEnds.{always_between, sometimes_between}
use Rattle.kleene_filter.proofs.TestsByEnds.{between_by_ends}
use Rattle.kleene_filter.proofs.ranges.lies_between.Goals as goal

pub returns : goal.returns
returns c =
    let i = interval_of c.args.range in
    let low = c.ranges.low in
    let high = c.ranges.high in
    let always : c.is_always_between.result ≡ always_between c.args.low c.args.high i = simp to_z-of_z at c.is_always_between.ensures in
    let sometimes : c.is_sometimes_between.result ≡ sometimes_between c.args.low c.args.high i = simp to_z-of_z at c.is_sometimes_between.ensures in
    c.known_from.ensures ∙ ap (λ a. truth_from a c.is_sometimes_between.result) always ∙ ap (truth_from (always_between c.args.low c.args.high i)) sometimes
    ∙ sym (between_by_ends i c.args.low c.args.high c.args.range.ordered)
