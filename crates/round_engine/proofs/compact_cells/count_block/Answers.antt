use Rattle.std.proofs.Common.{◌≡◌, ℕ, ◌+◌, ◌*◌, ◌%◌, get_or, ap, ◌∙◌, ◌&&◌, false, arith}
use Rattle.std.proofs.lemmas.Bool.{not-true}
use Rattle.std.proofs.lemmas.Option.{get_or_from_slice_get}
use Rattle.interval_calc.specs.declared.Interval as code
use Rattle.kleene_filter.specs.Filters.{is_certain, is_possible}
use Rattle.query_model.specs.Knowledge.{ranges_of}
use Rattle.query_model.specs.Truths.{span_of, truth_of}
use Rattle.query_model.proofs.Queries.{ranges_ordered, span_ordered}
use Rattle.round_engine.specs.Engines.{stage_of}
use Rattle.round_engine.proofs.CellKept.{parted_rows}
use Rattle.round_engine.proofs.CellPairs.{filter_words}
use Rattle.round_engine.proofs.CellRows.{block_cell, cell_counted, cell_is, cell_single, cells_fit}
use Rattle.round_engine.proofs.CompactCells.{may_count, own_counted, told_more}
use Rattle.round_engine.proofs.Declared.{never_null}
use Rattle.round_engine.proofs.Masked.{count_kind}
use Rattle.round_engine.proofs.RowPairs.{rows_of_mask}
use Rattle.round_engine.proofs.compact_cells.count_block.Goals as goal

pub word-may-requires : goal.word-may-requires
word-may-requires c = omega (arith, c.requires.rows, rows_of_mask is_possible c.may.result.now c.args.filter.now.truths c.args.query.now.pred c.args.columns.now c.may.ensures c.requires.judged)

pub word-must-requires : goal.word-must-requires
word-must-requires c = omega (arith, c.requires.rows, rows_of_mask is_certain c.must.result.now c.args.filter.now.truths c.args.query.now.pred c.args.columns.now c.must.ensures c.requires.judged)

pub read_block-requires : goal.read_block-requires
read_block-requires c = omega (arith, c.requires.rows, parted_rows (stage_of c.args.query.now c.args.columns.now) c.args.cells.now c.args.single.now c.requires.parted)

pub bounds-single-cell : goal.bounds-single-cell
bounds-single-cell c =
    let stage = stage_of c.args.query.now c.args.columns.now in
    let kept = c.requires.open_stage in
    let there = block_cell c.args.cells.now.cells c.args.number c.loop-row.row c.read_block.new.block c.from-cell.result c.read_block.ensures (omega (arith, parted_rows stage c.args.cells.now c.args.single.now c.requires.parted)) (omega arith) (omega arith) c.from-cell.ensures in
    let counted = cell_counted stage c.args.cells.now c.args.single.now c.requires.parted kept.knowledge c.loop-row.row (omega arith) c.from-cell.result there in
    omega (arith, counted, cells_fit stage kept, c.requires.parted.room)

pub add-requires-clause-cell : goal.add-requires-clause-cell
add-requires-clause-cell c =
    let stage = stage_of c.args.query.now c.args.columns.now in
    let there = block_cell c.args.cells.now.cells c.args.number c.loop-row.row c.read_block.new.block c.from-cell.result c.read_block.ensures (omega (arith, parted_rows stage c.args.cells.now c.args.single.now c.requires.parted)) (omega arith) (omega arith) c.from-cell.ensures in
    let counted = cell_counted stage c.args.cells.now c.args.single.now c.requires.parted c.requires.open_stage.knowledge c.loop-row.row (omega arith) c.from-cell.result there in
    omega (arith, counted, c.loop-row.invariant.cells)

pub add-requires-clause-room : goal.add-requires-clause-room
add-requires-clause-room c = λ comes.
    let stage = stage_of c.args.query.now c.args.columns.now in
    let kept = c.requires.open_stage in
    let there = block_cell c.args.cells.now.cells c.args.number c.loop-row.row c.read_block.new.block c.from-cell.result c.read_block.ensures (omega (arith, parted_rows stage c.args.cells.now c.args.single.now c.requires.parted)) (omega arith) (omega arith) c.from-cell.ensures in
    let counted = cell_counted stage c.args.cells.now c.args.single.now c.requires.parted kept.knowledge c.loop-row.row (omega arith) c.from-cell.result there in
    may_count c.pairs_are_few.ensures stage c.args.item.now c.loop-row.row c.from-cell.result c.loop-row.counts (omega arith) kept.open_query.few_rows counted c.loop-row.invariant

pub loop-row-preserved : goal.loop-row-preserved
loop-row-preserved c =
    let query = c.args.query.now in
    let item = c.args.item.now in
    let columns = c.args.columns.now in
    let number = c.args.number in
    let stage = stage_of query columns in
    let kept = c.requires.open_stage in
    let row = c.loop-row.row in
    let r = row % 64 in
    let ranges = ranges_of columns.frame columns.known row in
    let words = filter_words query columns c.args.filter.now.truths number c.may.result.now c.must.result.now c.word-may.result c.word-must.result c.requires.judged c.may.ensures c.must.ensures c.word-may.ensures c.word-must.ensures in
    let place : 64 * number + r ≡ row = omega arith in
    let cell = c.from-cell.result in
    let there = block_cell c.args.cells.now.cells c.args.number c.loop-row.row c.read_block.new.block c.from-cell.result c.read_block.ensures (omega (arith, parted_rows stage c.args.cells.now c.args.single.now c.requires.parted)) (omega arith) (omega arith) c.from-cell.ensures in
    let alone = get_or c.args.single.now cell false in
    let single = get_or_from_slice_get c.args.single.now cell _ false (cell_single stage c.args.cells.now c.args.single.now c.requires.parted kept.knowledge row (omega arith) c.cells_tell_keys.ensures cell there) in
    let counted = count_kind item.kind _ c.requires.counted in
    let never = never_null item.arg columns.frame columns.known row (not-true _ counted.1) in
    let perhaps = c.has_bit-perhaps.result in
    let surely = c.has_bit-surely.result in
    let span : code.Interval = record { lo = (span_of item.arg ranges).low; hi = (span_of item.arg ranges).high; ordered = span_ordered item.arg ranges (ranges_ordered columns.frame columns.known row kept.knowledge (omega arith)) } in
    let truth = λ (k : ℕ). truth_of query.pred (ranges_of columns.frame columns.known k) in
    told_more stage item row cell (cell_is stage c.args.cells.now c.args.single.now c.requires.parted kept.knowledge row (omega arith) cell there)
    c.loop-row.counts c.add.new.self perhaps (surely && alone) (span_of item.arg ranges) c.loop-row.invariant (λ comes. c.add.ensures.added comes span) c.add.ensures.passed
    (own_counted query item columns row perhaps surely alone never
    (c.has_bit-perhaps.ensures ∙ words.may_bit r (omega arith) ∙ ap (λ k. is_possible (truth k)) place)
    (c.has_bit-surely.ensures ∙ words.must_bit r (omega arith) ∙ ap (λ k. is_certain (truth k)) place) single)
