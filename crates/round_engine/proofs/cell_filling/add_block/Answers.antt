use Rattle.std.proofs.Common.{◌≡◌, ◌+◌, ◌*◌, ◌%◌, get_or, ap, subst, ◌&&◌, false, arith}
use Rattle.std.proofs.lemmas.Option.{get_or_from_slice_get, slice_get-get_or}
use Rattle.aggregates.specs.Tallies.{pair_with}
use Rattle.kleene_filter.specs.Filters.{is_certain, is_possible}
use Rattle.query_model.specs.Queries.{term_of}
use Rattle.row_values.specs.BlockValues.{AreValues}
use Rattle.round_engine.specs.Engines.{stage_of}
use Rattle.round_engine.proofs.CellKept.{parted_rows}
use Rattle.round_engine.proofs.CellPairs.{filter_words, may_add, own_none, own_some, stand_as_before, stand_more}
use Rattle.round_engine.proofs.CellRows.{cell_counted, cell_is, cell_single, cells_fit}
use Rattle.round_engine.proofs.RowPairs.{rows_of_mask}
use Rattle.round_engine.proofs.cell_filling.add_block.Goals as goal
use Rattle.round_engine.proofs.cell_filling.add_block.Goals.{then-has_bit, else-has_bit}

pub word-requires : goal.word-requires
word-requires c = omega (arith, c.requires.rows, rows_of_mask is_possible c.may.result.now c.args.filter.now.truths c.args.query.now.pred c.args.columns.now c.may.ensures c.requires.judged)

pub word-requires-2 : goal.word-requires-2
word-requires-2 c = omega (arith, c.requires.rows, rows_of_mask is_certain c.must.result.now c.args.filter.now.truths c.args.query.now.pred c.args.columns.now c.must.ensures c.requires.judged)

pub cell_of-cell-requires : goal.cell_of-cell-requires
cell_of-cell-requires c = omega (arith, parted_rows (stage_of c.args.query.now c.args.columns.now) c.args.cells.now c.args.single.now c.requires.parted)

pub bounds-single-cell : goal.bounds-single-cell
bounds-single-cell c =
    let stage = stage_of c.args.query.now c.args.columns.now in
    let kept = c.requires.open_stage in
    let counted = cell_counted stage c.args.cells.now c.args.single.now c.requires.parted kept.knowledge c.loop-row.row (omega arith) c.cell_of-cell.result c.cell_of-cell.ensures.cell in
    omega (arith, counted, cells_fit stage kept, c.requires.parted.room)

pub add-requires : goal.add-requires
add-requires c =
    let query = c.args.query.now in
    let item = c.args.item.now in
    let columns = c.args.columns.now in
    let number = c.args.number in
    let values = c.read.new.self in
    let stage = stage_of query columns in
    let kept = c.requires.open_stage in
    let row = c.loop-row.row in
    let r = row % 64 in
    let arg : term_of c.item.inside.arg ≡ item.arg = ap (λ i. i.arg) c.item.view_is in
    let read = subst (λ e. AreValues e columns number values) arg c.read.ensures.values in
    let words = filter_words query columns c.args.filter.now.truths number c.may.result.now c.must.result.now c.word.result c.word-2.result c.requires.judged c.may.ensures c.must.ensures c.word.ensures c.word-2.ensures in
    let place : 64 * number + r ≡ row = omega arith in
    let cell = c.cell_of-cell.result in
    let there = c.cell_of-cell.ensures.cell in
    let alone = get_or c.args.single.now cell false in
    let single = get_or_from_slice_get c.args.single.now cell _ false (cell_single stage c.args.cells.now c.args.single.now c.requires.parted kept.knowledge row (omega arith) c.cells_tell_keys.ensures cell there) in
    let span = get_or values.spans r c.index-values-row.result in
    let certain = c.has_bit-then-has_bit.result in
    may_add stage item row cell (cell_is stage c.args.cells.now c.args.single.now c.requires.parted kept.knowledge row (omega arith) cell there)
    c.pairs_are_few.ensures c.sums_of_items_fit.ensures c.loop-row.running (pair_with (certain && alone) span) (omega arith) kept.open_query.few_rows kept.knowledge c.requires.open_item.fits
    (cell_counted stage c.args.cells.now c.args.single.now c.requires.parted kept.knowledge row (omega arith) cell there) c.loop-row.invariant
    (own_some query item columns number values c.word.result c.word-2.result words read r (omega arith) c.has_bit.result certain alone span row place
    c.has_bit.ensures c.if-has_bit.true c.has_bit-then-has_bit.ensures single (slice_get-get_or values.spans r c.index-values-row.result (omega (arith, read.count))))

pub loop-row-preserved : goal.loop-row-preserved
loop-row-preserved c =
    let query = c.args.query.now in
    let item = c.args.item.now in
    let columns = c.args.columns.now in
    let number = c.args.number in
    let values = c.read.new.self in
    let stage = stage_of query columns in
    let kept = c.requires.open_stage in
    let row = c.loop-row.row in
    let r = row % 64 in
    let arg : term_of c.item.inside.arg ≡ item.arg = ap (λ i. i.arg) c.item.view_is in
    let read = subst (λ e. AreValues e columns number values) arg c.read.ensures.values in
    let words = filter_words query columns c.args.filter.now.truths number c.may.result.now c.must.result.now c.word.result c.word-2.result c.requires.judged c.may.ensures c.must.ensures c.word.ensures c.word-2.ensures in
    let place : 64 * number + r ≡ row = omega arith in
    elim c.if-has_bit.branch [
      | then-has_bit w ↦
          (let cell = w.cell_of-cell.result in
          let there = w.cell_of-cell.ensures.cell in
          let alone = get_or c.args.single.now cell false in
          let single = get_or_from_slice_get c.args.single.now cell _ false (cell_single stage c.args.cells.now c.args.single.now c.requires.parted kept.knowledge row (omega arith) c.cells_tell_keys.ensures cell there) in
          let span = get_or values.spans r w.index-values-row.result in
          let certain = w.has_bit-then-has_bit.result in
          rw w.running-is (stand_more stage item row cell (cell_is stage c.args.cells.now c.args.single.now c.requires.parted kept.knowledge row (omega arith) cell there)
          c.loop-row.running w.add.new.self (pair_with (certain && alone) span) c.loop-row.invariant w.add.ensures
          (own_some query item columns number values c.word.result c.word-2.result words read r (omega arith) c.has_bit.result certain alone span row place
          c.has_bit.ensures w.if-has_bit.true w.has_bit-then-has_bit.ensures single (slice_get-get_or values.spans r w.index-values-row.result (omega (arith, read.count))))))
      | else-has_bit w ↦
          rw w.running-is (stand_as_before stage item row c.loop-row.running c.loop-row.invariant
          (own_none query item columns number values c.word.result c.word-2.result words read r (omega arith) c.has_bit.result row place c.has_bit.ensures w.if-has_bit.false))
    ]
