use Rattle.std.proofs.Common.{◌≡◌, ap, sym, subst}
use Rattle.interval_calc.specs.Intervals.{difference_of, interval_of, product_of, sum_of}
use Rattle.query_model.specs.Queries.{term_of}
use Rattle.product_sums.proofs.Hulls.{Around, around_difference, around_product, around_sum, if_some}
use Rattle.product_sums.proofs.extremes.+hull.Goals as goal

pub returns-in_ok-hull-in-Add-2 : goal.returns-in_ok-hull-in-Add-2
returns-in_ok-hull-in-Add-2 t c =
    let table = c.args.columns.now in
    let mask = c.args.mask.now in
    let whole = around_sum table c.rows-rows.ensures.known mask c.requires.rows (term_of c.deref.result.now) (term_of c.deref-in-Add.result.now) (interval_of c.in_ok-hull-in-Add.field-0) (interval_of c.in_ok-hull-in-Add-2.field-0)
    c.in_ok-hull-in-Add.ensures c.in_ok-hull-in-Add-2.ensures in
    let same = ap term_of c.in-Add.is in
    if_some c.add.result (λ s. interval_of s ≡ sum_of (interval_of c.in_ok-hull-in-Add.field-0) (interval_of c.in_ok-hull-in-Add-2.field-0)) (λ s. Around table mask (term_of c.args.expr.now) (interval_of s))
    (λ s is. subst (Around table mask (term_of c.args.expr.now)) (sym is) (rw (c.in-Add.is, ← c.deref.ensures, ← c.deref-in-Add.ensures) whole)) c.add.ensures.value

pub returns-in_ok-hull-in-Sub-2 : goal.returns-in_ok-hull-in-Sub-2
returns-in_ok-hull-in-Sub-2 t c =
    let table = c.args.columns.now in
    let mask = c.args.mask.now in
    let whole = around_difference table c.rows-rows.ensures.known mask c.requires.rows (term_of c.deref-in-Sub.result.now) (term_of c.deref-in-Sub-2.result.now) (interval_of c.in_ok-hull-in-Sub.field-0) (interval_of c.in_ok-hull-in-Sub-2.field-0)
    c.in_ok-hull-in-Sub.ensures c.in_ok-hull-in-Sub-2.ensures in
    if_some c.sub.result (λ s. interval_of s ≡ difference_of (interval_of c.in_ok-hull-in-Sub.field-0) (interval_of c.in_ok-hull-in-Sub-2.field-0)) (λ s. Around table mask (term_of c.args.expr.now) (interval_of s))
    (λ s is. subst (Around table mask (term_of c.args.expr.now)) (sym is) (rw (c.in-Sub.is, ← c.deref-in-Sub.ensures, ← c.deref-in-Sub-2.ensures) whole)) c.sub.ensures.value

pub returns-in_ok-hull-in-Mul-2 : goal.returns-in_ok-hull-in-Mul-2
returns-in_ok-hull-in-Mul-2 t c =
    let table = c.args.columns.now in
    let mask = c.args.mask.now in
    let whole = around_product table c.rows-rows.ensures.known mask c.requires.rows (term_of c.deref-in-Mul.result.now) (term_of c.deref-in-Mul-2.result.now) (interval_of c.in_ok-hull-in-Mul.field-0) (interval_of c.in_ok-hull-in-Mul-2.field-0)
    c.in_ok-hull-in-Mul.ensures c.in_ok-hull-in-Mul-2.ensures in
    if_some c.mul.result (λ s. interval_of s ≡ product_of (interval_of c.in_ok-hull-in-Mul.field-0) (interval_of c.in_ok-hull-in-Mul-2.field-0)) (λ s. Around table mask (term_of c.args.expr.now) (interval_of s))
    (λ s is. subst (Around table mask (term_of c.args.expr.now)) (sym is) (rw (c.in-Mul.is, ← c.deref-in-Mul.ensures, ← c.deref-in-Mul-2.ensures) whole)) c.mul.ensures.value
