use Rattle.std.proofs.Common.{rules, nat_abs, Bool, Some, FitsSigned, ap, sym, ◌∙◌, arith, option_map}
use Rattle.std.specs.Int.{w128}
use Rattle.std.proofs.lemmas.Int.{to_z-of_z}
use Rattle.interval_calc.specs.Intervals.{interval_of}
use Rattle.avg_exact.specs.Passes.{end_value, size_at}
use Rattle.avg_exact.proofs.RowPasses.{end_small, row_value, size_fits, span_small}
use Rattle.avg_exact.proofs.passes.value_at.Goals as goal

pub end_of-requires : goal.end_of-requires
end_of-requires c =
    let small = span_small c.args.engine.now c.args.item c.args.row (interval_of c.span-span.result) c.requires.averaged c.requires.row c.span-span.ensures in
    let low = small.0 in
    let top = size_fits c.args.engine.now c.args.item c.args.row c.requires.averaged c.requires.row in
    omega arith

pub returns-in-None-clause-value : goal.returns-in-None-clause-value
returns-in-None-clause-value c =
    sym (row_value c.args.engine.now c.args.item c.args.end c.args.row c.truth.result c.missing.result (interval_of c.span-span.result) c.requires.averaged c.truth.ensures c.missing.ensures c.span-span.ensures
    ∙ ap (option_map (λ (b : Bool). record { certain = b; value = end_value c.args.end (interval_of c.span-span.result) })) (sym c.in-None.ensures))

pub returns-in-Some-clause-value : goal.returns-in-Some-clause-value
returns-in-Some-clause-value c =
    let fits : FitsSigned w128 c.end_of.result = search rules in
    let value = to_z-of_z w128 c.end_of.result fits ∙ c.end_of.ensures in
    ap (λ z. Some (record { certain = c.in-Some.certain; value = z })) value
    ∙ sym (row_value c.args.engine.now c.args.item c.args.end c.args.row c.truth.result c.missing.result (interval_of c.span-span.result) c.requires.averaged c.truth.ensures c.missing.ensures c.span-span.ensures
    ∙ ap (option_map (λ (b : Bool). record { certain = b; value = end_value c.args.end (interval_of c.span-span.result) })) (sym c.in-Some.ensures))

pub returns-in-Some-clause-small : goal.returns-in-Some-clause-small
returns-in-Some-clause-small c =
    let fits : FitsSigned w128 c.end_of.result = search rules in
    let value = ap nat_abs (to_z-of_z w128 c.end_of.result fits ∙ c.end_of.ensures) in
    let small = span_small c.args.engine.now c.args.item c.args.row (interval_of c.span-span.result) c.requires.averaged c.requires.row c.span-span.ensures in
    let end = end_small c.args.end (interval_of c.span-span.result) (size_at c.args.engine.now c.args.item) small.0 small.1 in
    omega (arith, value, end)
