use Rattle.std.proofs.Common.{◌∙◌, sym, ap}
use Rattle.interval_calc.specs.Intervals.{interval_of}
use Rattle.query_model.specs.Truths.{truth_from}
use Rattle.kleene_filter.specs.ByEnds.{always_compares}
use Rattle.kleene_filter.proofs.TestsByEnds.{compared_by_ends}
use Rattle.kleene_filter.proofs.ranges.compared.Goals as goal

pub returns : goal.returns
returns c =
    let i = interval_of c.args.left in
    let j = interval_of c.args.right in
    c.known_from.ensures ∙ ap (λ a. truth_from a c.holds_sometimes.result) c.holds_always.ensures ∙ ap (truth_from (always_compares c.args.op i j)) c.holds_sometimes.ensures
    ∙ sym (compared_by_ends c.args.op i j c.args.left.ordered c.args.right.ordered)
