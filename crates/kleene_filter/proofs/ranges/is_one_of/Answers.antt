use Rattle.std.proofs.Common.{◌∙◌, sym, ap}
use Rattle.std.specs.List.{list_all}
use Rattle.interval_calc.specs.Intervals.{interval_of, numbers_in}
use Rattle.query_model.specs.Meaning.{among}
use Rattle.query_model.specs.Truths.{truth_from}
use Rattle.kleene_filter.proofs.TestsByEnds.{among_by_ends}
use Rattle.kleene_filter.proofs.ranges.is_one_of.Goals as goal

pub returns : goal.returns
returns c =
    let i = interval_of c.args.range in
    c.known_from.ensures ∙ ap (λ a. truth_from a c.is_some_within.result) c.are_all_among.ensures ∙ ap (truth_from (list_all (among c.args.values.now) (numbers_in i))) c.is_some_within.ensures
    ∙ sym (among_by_ends i c.args.values.now c.args.range.ordered)
