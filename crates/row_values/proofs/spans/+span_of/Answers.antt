use Rattle.interval_calc.specs.Intervals.{interval_of}
use Rattle.query_model.specs.Queries.{term_of}
use Rattle.query_model.specs.Truths.{span_of}
use Rattle.query_model.proofs.Fits.{wide_inside}
use Rattle.query_model.proofs.Spans.{IsSmaller, difference_smaller, product_smaller, sum_smaller}
use Rattle.query_model.specs.Validity.{declared_ranges}
use Rattle.row_values.proofs.spans.+span_of.Goals as goal

pub product-requires : goal.product-requires
product-requires g t c =
    let declared = declared_ranges (g.R.KnownRows.table c.args.rows.now).frame in
    let a : IsSmaller (interval_of c.span_of-in-Mul.result) (span_of (term_of c.deref-in-Mul.result.now) declared) = record { ordered = c.span_of-in-Mul.result.ordered; inside = c.span_of-in-Mul.ensures.inside } in
    let b : IsSmaller (interval_of c.span_of-in-Mul-2.result) (span_of (term_of c.deref-in-Mul-2.result.now) declared) = record { ordered = c.span_of-in-Mul-2.result.ordered; inside = c.span_of-in-Mul-2.ensures.inside } in
    let fits = rw c.in-Mul.is at c.requires.fits in
    wide_inside _ _ (product_smaller _ _ _ _ a b) (rw (c.deref-in-Mul.ensures, c.deref-in-Mul-2.ensures) fits.2)

pub returns-in-Add-clause-inside : goal.returns-in-Add-clause-inside
returns-in-Add-clause-inside g t c =
    let declared = declared_ranges (g.R.KnownRows.table c.args.rows.now).frame in
    let a : IsSmaller (interval_of c.span_of.result) (span_of (term_of c.deref.result.now) declared) = record { ordered = c.span_of.result.ordered; inside = c.span_of.ensures.inside } in
    let b : IsSmaller (interval_of c.span_of-in-Add.result) (span_of (term_of c.deref-in-Add.result.now) declared) = record { ordered = c.span_of-in-Add.result.ordered; inside = c.span_of-in-Add.ensures.inside } in
    rw (c.in-Add.is, c.sum.ensures, ← c.deref.ensures, ← c.deref-in-Add.ensures) (sum_smaller _ _ _ _ a b).inside

pub returns-in-Sub-clause-inside : goal.returns-in-Sub-clause-inside
returns-in-Sub-clause-inside g t c =
    let declared = declared_ranges (g.R.KnownRows.table c.args.rows.now).frame in
    let a : IsSmaller (interval_of c.span_of-in-Sub.result) (span_of (term_of c.deref-in-Sub.result.now) declared) = record { ordered = c.span_of-in-Sub.result.ordered; inside = c.span_of-in-Sub.ensures.inside } in
    let b : IsSmaller (interval_of c.span_of-in-Sub-2.result) (span_of (term_of c.deref-in-Sub-2.result.now) declared) = record { ordered = c.span_of-in-Sub-2.result.ordered; inside = c.span_of-in-Sub-2.ensures.inside } in
    rw (c.in-Sub.is, c.difference.ensures, ← c.deref-in-Sub.ensures, ← c.deref-in-Sub-2.ensures) (difference_smaller _ _ _ _ a b).inside

pub returns-in-Mul-clause-inside : goal.returns-in-Mul-clause-inside
returns-in-Mul-clause-inside g t c =
    let declared = declared_ranges (g.R.KnownRows.table c.args.rows.now).frame in
    let a : IsSmaller (interval_of c.span_of-in-Mul.result) (span_of (term_of c.deref-in-Mul.result.now) declared) = record { ordered = c.span_of-in-Mul.result.ordered; inside = c.span_of-in-Mul.ensures.inside } in
    let b : IsSmaller (interval_of c.span_of-in-Mul-2.result) (span_of (term_of c.deref-in-Mul-2.result.now) declared) = record { ordered = c.span_of-in-Mul-2.result.ordered; inside = c.span_of-in-Mul-2.ensures.inside } in
    rw (c.in-Mul.is, c.product.ensures, ← c.deref-in-Mul.ensures, ← c.deref-in-Mul-2.ensures) (product_smaller _ _ _ _ a b).inside
