use Rattle.std.proofs.Common.{◌+◌, ◌*◌, sym, subst, arith}
use Rattle.query_model.specs.Knowledge.{ranges_of}
use Rattle.query_model.specs.Queries.{term_of}
use Rattle.query_model.specs.Validity.{declared_ranges}
use Rattle.known_column.specs.Columns.{KnownColumn}
use Rattle.row_values.specs.ShortSpans.{IsShortRange, IsShortSpan}
use Rattle.row_values.proofs.ShortRows.{fit_each, joined_spans}
use Rattle.row_values.proofs.short_spans.+short_spans.Goals as goal

pub joined_spans-join_each-requires-clause-fit : goal.joined_spans-join_each-requires-clause-fit
joined_spans-join_each-requires-clause-fit t c =
    fit_each c.args.operation (term_of c.args.left.now) (term_of c.args.right.now) c.args.columns.now c.args.block c.min-count.result _ _ (omega arith) c.short_spans.ensures c.short_spans-2.ensures c.requires.fits

pub joined_spans-returns : goal.joined_spans-returns
joined_spans-returns t c =
    joined_spans c.args.operation (term_of c.args.left.now) (term_of c.args.right.now) c.args.columns.now c.args.block c.min-count.result _ _ (omega arith) c.short_spans.ensures c.short_spans-2.ensures _ (omega arith) (omega arith) c.join_each.ensures

pub short_spans-returns-in-Add : goal.short_spans-returns-in-Add
short_spans-returns-in-Add t c = rw (c.in-Add.is, ← c.deref.ensures, ← c.deref-in-Add.ensures) c.joined_spans.ensures

pub short_spans-returns-in-Sub : goal.short_spans-returns-in-Sub
short_spans-returns-in-Sub t c = rw (c.in-Sub.is, ← c.deref-in-Sub.ensures, ← c.deref-in-Sub-2.ensures) c.joined_spans-in-Sub.ensures

pub short_spans-returns-in-Mul : goal.short_spans-returns-in-Mul
short_spans-returns-in-Mul t c = rw (c.in-Mul.is, ← c.deref-in-Mul.ensures, ← c.deref-in-Mul-2.ensures) c.joined_spans-in-Mul.ensures

pub short_spans-returns-in-Column : goal.short_spans-returns-in-Column
short_spans-returns-in-Column t c = λ r span below at.
    let row = 64 * c.args.block + r in
    let declared = declared_ranges c.args.columns.now.frame in
    let ranges = ranges_of c.args.columns.now.frame c.args.columns.now.known row in
    let here = subst (λ (k : KnownColumn). IsShortRange k row span) c.column.ensures.column (c.column_ranges.ensures r span (omega (arith, below, c.column.ensures.rows)) at) in
    subst (λ e. IsShortSpan (term_of e) declared ranges span) (sym c.in-Column.is) (record { inside = here.inside; exact = here.exact })
