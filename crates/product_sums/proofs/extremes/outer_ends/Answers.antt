use Rattle.std.proofs.Common.{◌≡◌, ap, sym, ◌∙◌, arith}
use Rattle.std.proofs.lemmas.Int.{ints}
use Rattle.interval_calc.specs.Intervals.{interval_of}
use Rattle.query_model.specs.Queries.{term_of}
use Rattle.product_sums.proofs.Hulls.{greatest_end, least_end}
use Rattle.product_sums.proofs.extremes.outer_ends.Goals as goal

pub returns-then-span_of-hull-2-clause-low : goal.returns-then-span_of-hull-2-clause-low
returns-then-span_of-hull-2-clause-low c =
    let same : c.span_of.result.lo ≡ c.in_ok-hull.hull.lo = omega (arith, ints, c.if-span_of-hull.true) in
    least_end c.args.columns.now (term_of c.args.arg.now) c.args.mask.now (interval_of c.in_ok-hull.hull) c.in_ok-hull.ensures c.in_ok-low.low c.in_ok-low.ensures
    (ap (λ i. i.low) (sym c.span_of.ensures.span) ∙ same)

pub returns-then-span_of-hull-2-clause-high : goal.returns-then-span_of-hull-2-clause-high
returns-then-span_of-hull-2-clause-high c =
    let same : c.span_of-then-span_of-hull.result.hi ≡ c.in_ok-hull.hull.hi = omega (arith, ints, c.if-span_of-hull-2.true) in
    greatest_end c.args.columns.now (term_of c.args.arg.now) c.args.mask.now (interval_of c.in_ok-hull.hull) c.in_ok-hull.ensures c.in_ok-high.high c.in_ok-high.ensures
    (ap (λ i. i.high) (sym c.span_of-then-span_of-hull.ensures.span) ∙ same)
