use Rattle.std.proofs.Common.{◌≡◌, ◌+◌, ◌*◌, ◌%◌, get_or, slice_get, Some, ap, sym, ◌∙◌, ◌&&◌, false, not, subst, arith, ℤ, IsTrue, to_z, of_z}
use Rattle.std.proofs.lemmas.Option.{get_or_from_slice_get, slice_get-get_or}
use Rattle.std.specs.Int.{w64}
use Rattle.aggregates.specs.Runnings.{IsAdded}
use Rattle.aggregates.specs.SumsOfCells.{FitsCell}
use Rattle.query_model.specs.Queries.{Aggregate, term_of}
use Rattle.row_values.specs.BlockValues.{AreShortValues}
use Rattle.row_values.specs.declared.short.ShortInterval.{ShortInterval}
use Rattle.kleene_filter.specs.Filters.{is_certain, is_possible, truth_at}
use Rattle.kleene_filter.proofs.WordBits.{both_bits}
use Rattle.query_model.specs.Knowledge.{ranges_of}
use Rattle.query_model.specs.Truths.{may_be_null, may_be_number, null_of, span_of, truth_of}
use Rattle.query_model.specs.Validity.{declared_ranges}
use Rattle.round_engine.specs.Engines.{stage_of}
use Rattle.round_engine.proofs.CellKept.{parted_rows}
use Rattle.round_engine.proofs.CellPairs.{filter_words}
use Rattle.round_engine.proofs.CellRows.{cell_counted, cell_is, cell_single, cells_fit}
use Rattle.round_engine.proofs.CompactCells.{high_again, low_again, may_count, own_told, short_fits, told_more}
use Rattle.round_engine.proofs.RowPairs.{rows_of_mask}
use Rattle.round_engine.proofs.compact_cells.sum_block.Goals as goal

abbrev again : ℤ → ℤ
again z = to_z w64 (of_z w64 z)

pub word-requires : goal.word-requires
word-requires c = omega (arith, c.requires.rows, rows_of_mask is_possible c.may.result.now c.args.filter.now.truths c.args.query.now.pred c.args.columns.now c.may.ensures c.requires.judged)

pub word-requires-2 : goal.word-requires-2
word-requires-2 c = omega (arith, c.requires.rows, rows_of_mask is_certain c.must.result.now c.args.filter.now.truths c.args.query.now.pred c.args.columns.now c.must.ensures c.requires.judged)

pub cell_of-cell-requires : goal.cell_of-cell-requires
cell_of-cell-requires c = omega (arith, parted_rows (stage_of c.args.query.now c.args.columns.now) c.args.cells.now c.args.single.now c.requires.parted)

pub bounds-single-cell : goal.bounds-single-cell
bounds-single-cell c =
    let stage = stage_of c.args.query.now c.args.columns.now in
    let kept = c.requires.open_stage in
    let counted = cell_counted stage c.args.cells.now c.args.single.now c.requires.parted kept.knowledge c.loop-row.row (omega arith) c.cell_of-cell.result c.cell_of-cell.ensures.cell in
    omega (arith, counted, cells_fit stage kept, c.requires.parted.room)

pub add-requires-clause-cell : goal.add-requires-clause-cell
add-requires-clause-cell c =
    let stage = stage_of c.args.query.now c.args.columns.now in
    let counted = cell_counted stage c.args.cells.now c.args.single.now c.requires.parted c.requires.open_stage.knowledge c.loop-row.row (omega arith) c.cell_of-cell.result c.cell_of-cell.ensures.cell in
    omega (arith, counted, c.loop-row.invariant.cells)

pub add-requires-clause-room : goal.add-requires-clause-room
add-requires-clause-room c = λ comes.
    let stage = stage_of c.args.query.now c.args.columns.now in
    let kept = c.requires.open_stage in
    let counted = cell_counted stage c.args.cells.now c.args.single.now c.requires.parted kept.knowledge c.loop-row.row (omega arith) c.cell_of-cell.result c.cell_of-cell.ensures.cell in
    may_count c.pairs_are_few.ensures stage c.args.item.now c.loop-row.row c.cell_of-cell.result c.loop-row.sums (omega arith) kept.open_query.few_rows counted c.loop-row.invariant

pub loop-row-preserved : goal.loop-row-preserved
loop-row-preserved c =
    let query = c.args.query.now in
    let item = c.args.item.now in
    let columns = c.args.columns.now in
    let number = c.args.number in
    let stage = stage_of query columns in
    let kept = c.requires.open_stage in
    let row = c.loop-row.row in
    let r = row % 64 in
    let ranges = ranges_of columns.frame columns.known row in
    let words = filter_words query columns c.args.filter.now.truths number c.may.result.now c.must.result.now c.word.result c.word-2.result c.requires.judged c.may.ensures c.must.ensures c.word.ensures c.word-2.ensures in
    let place : 64 * number + r ≡ row = omega arith in
    let cell = c.cell_of-cell.result in
    let there = c.cell_of-cell.ensures.cell in
    let alone = get_or c.args.single.now cell false in
    let single = get_or_from_slice_get c.args.single.now cell _ false (cell_single stage c.args.cells.now c.args.single.now c.requires.parted kept.knowledge row (omega arith) c.cells_tell_keys.ensures cell there) in
    let arg : term_of c.item.inside.arg ≡ item.arg = ap (λ (i : Aggregate). i.arg) c.item.view_is in
    let values = c.read-values.result in
    let read = subst (λ e. AreShortValues e columns number values) arg c.read-values.ensures in
    let null = null_of item.arg ranges in
    let perhaps = c.has_bit-perhaps.result in
    let surely = c.has_bit-surely.result in
    let t = truth_of query.pred ranges in
    let span = c.index-values-row.result in
    let at : slice_get values.spans r ≡ Some span = slice_get-get_or values.spans r span (omega (arith, read.count)) ∙ ap Some (sym c.index-values-row.is) in
    let short = read.spans r span (omega arith) at in
    let fits = short_fits (span_of item.arg (declared_ranges columns.frame)) span short.inside c.requires.fits.cell in
    let low_is : again (get_or values.spans r span).lo ≡ span.lo = ap (λ (s : ShortInterval). again s.lo) (sym c.index-values-row.is) ∙ low_again span fits in
    let high_is : again (get_or values.spans r span).hi ≡ span.hi = ap (λ (s : ShortInterval). again s.hi) (sym c.index-values-row.is) ∙ high_again span fits in
    let may_is = both_bits r c.word.result values.possible (is_possible t) (may_be_number null) (words.may_bit r (omega arith) ∙ ap (λ k. is_possible (truth_at query.pred columns k)) place) (read.possible r (omega arith) ∙ ap (λ k. may_be_number (null_of item.arg (ranges_of columns.frame columns.known k))) place) in
    let must_is = both_bits r c.word-2.result values.sure (is_certain t) (not (may_be_null null)) (words.must_bit r (omega arith) ∙ ap (λ k. is_certain (truth_at query.pred columns k)) place) (read.sure r (omega arith) ∙ ap (λ k. not (may_be_null (null_of item.arg (ranges_of columns.frame columns.known k)))) place) in
    told_more stage item row cell (cell_is stage c.args.cells.now c.args.single.now c.requires.parted kept.knowledge row (omega arith) cell there)
    c.loop-row.sums c.add.new.self perhaps (surely && alone) (record { low = span.lo; high = span.hi }) c.loop-row.invariant
    (λ comes. subst (λ n. IsAdded c.loop-row.sums c.add.new.self cell (record { certain = surely && alone; low = n; high = span.hi })) low_is
    (subst (λ n. IsAdded c.loop-row.sums c.add.new.self cell (record { certain = surely && alone; low = again (get_or values.spans r span).lo; high = n })) high_is (c.add.ensures.added comes)))
    c.add.ensures.passed
    (own_told query item columns row perhaps surely alone (record { low = span.lo; high = span.hi })
    (c.has_bit-perhaps.ensures ∙ may_is)
    (c.has_bit-surely.ensures ∙ must_is) single (λ some. short.exact (subst (λ k. IsTrue (may_be_number (null_of item.arg (ranges_of columns.frame columns.known k)))) (sym place) some) ∙ ap (λ k. span_of item.arg (ranges_of columns.frame columns.known k)) place))

pub add-requires-clause-fits : goal.add-requires-clause-fits
add-requires-clause-fits c =
    let item = c.args.item.now in
    let columns = c.args.columns.now in
    let number = c.args.number in
    let r = c.loop-row.row % 64 in
    let arg : term_of c.item.inside.arg ≡ item.arg = ap (λ (i : Aggregate). i.arg) c.item.view_is in
    let values = c.read-values.result in
    let read = subst (λ e. AreShortValues e columns number values) arg c.read-values.ensures in
    let span = c.index-values-row.result in
    let at : slice_get values.spans r ≡ Some span = slice_get-get_or values.spans r span (omega (arith, read.count)) ∙ ap Some (sym c.index-values-row.is) in
    let short = read.spans r span (omega arith) at in
    let fits = short_fits (span_of item.arg (declared_ranges columns.frame)) span short.inside c.requires.fits.cell in
    let low_is : again (get_or values.spans r span).lo ≡ span.lo = ap (λ (s : ShortInterval). again s.lo) (sym c.index-values-row.is) ∙ low_again span fits in
    let high_is : again (get_or values.spans r span).hi ≡ span.hi = ap (λ (s : ShortInterval). again s.hi) (sym c.index-values-row.is) ∙ high_again span fits in
    subst (λ n. FitsCell n (again (get_or values.spans r span).hi)) (sym low_is) (subst (λ n. FitsCell span.lo n) (sym high_is) fits)
