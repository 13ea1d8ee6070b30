use Rattle.std.proofs.Common.{◌≡◌, sym, ap, ◌∙◌, rules, to_z, of_z}
use Rattle.std.proofs.lemmas.Int.{to_z-of_z}
use Rattle.std.specs.Int.{w128}
use Rattle.interval_calc.specs.Intervals.{interval_of}
use Rattle.query_model.specs.Knowledge.{ranges_of}
use Rattle.query_model.specs.Meaning.{compares}
use Rattle.query_model.specs.Truths.{truth_over, truths_from, truths_of_atom}
use Rattle.kleene_filter.proofs.atoms.atom_at.Goals as goal

pub returns-in-Compare : goal.returns-in-Compare
returns-in-Compare g c =
    let ranges = ranges_of (g.R.KnownRows.table c.args.rows.now).frame (g.R.KnownRows.table c.args.rows.now).known c.args.row in
    let op = c.in-Compare.op in
    let v = c.in-Compare.value in
    let fits : to_z w128 (of_z w128 v) ≡ v = to_z-of_z w128 v (search rules) in
    let on_numbers = c.compared_with-on_numbers.ensures ∙ ap (λ n. truth_over (interval_of c.range-range.result) (λ x. compares op x n)) fits in
    c.test_of_one.ensures ∙ ap (λ n. truths_from n c.compared_with-on_numbers.result) c.missing.ensures
    ∙ ap (truths_from (ranges c.in-Compare.column).null) (on_numbers ∙ ap (λ r. truth_over r (λ x. compares op x v)) c.range-range.ensures.range)
    ∙ ap (λ a. truths_of_atom a ranges) (sym c.in-Compare.is)
