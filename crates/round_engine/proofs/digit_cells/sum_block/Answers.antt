use Rattle.std.proofs.Common.{◌≡◌, ℕ, ◌+◌, ◌*◌, ◌%◌, ◌<◌, length, length-take, map, get_or, slice_get, true, false, refl, ap, sym, subst, ◌∙◌, arith}
use Rattle.aggregates.proofs.Adding.{taken_same}
use Rattle.aggregates.specs.Runnings.{Tallies}
use Rattle.digit_sums.specs.Digits.{AreEndsOf, AreOf, DigitTallies, high_by, low_by, pair_by, tally_by}
use Rattle.kleene_filter.specs.Filters.{is_certain, is_possible}
use Rattle.known_column.specs.Columns.{count_in_block, number_of, rows_of_column}
use Rattle.plane_kernels.specs.Rows.{digit_at}
use Rattle.query_model.specs.Answers.{groups_of}
use Rattle.query_model.specs.Groups.{holds_one_key}
use Rattle.query_model.specs.Knowledge.{ranges_of}
use Rattle.query_model.specs.Truths.{span_of, truth_of}
use Rattle.row_values.proofs.NumberRanges.{number_there}
use Rattle.round_engine.specs.Cells.{cells_in}
use Rattle.round_engine.specs.Engines.{stage_of}
use Rattle.round_engine.proofs.CellKept.{parted_rows}
use Rattle.round_engine.proofs.CellPairs.{filter_words, stand_as_before, stand_more}
use Rattle.round_engine.proofs.CellRows.{block_cell, cell_counted, cell_is, cell_single}
use Rattle.round_engine.proofs.CompactCells.{may_count, own_counted, pair_told}
use Rattle.round_engine.proofs.DigitCells.{column_never, column_span, digits_fit, digits_small, digits_span}
use Rattle.round_engine.proofs.RowPairs.{rows_of_mask}
use Rattle.round_engine.proofs.digit_cells.sum_block.Goals as goal
use Rattle.round_engine.proofs.digit_cells.sum_block.Goals.{then-has_bit, else-has_bit}

-- a cell that is counted is one of those of which something is kept
cell_within : (sums : DigitTallies) (tallies : Tallies) (count cell : ℕ) → AreOf sums tallies → length tallies.cells ≡ count → cell < count → cell < sums.count
cell_within sums tallies count cell are long below =
    let taken = length-take sums.count (map (tally_by sums.ends) are.cells) in
    omega (arith, below, long, taken, ap (λ (t : Tallies). length t.cells) are.are)

pub word-may-requires : goal.word-may-requires
word-may-requires c = omega (arith, c.requires.number, rows_of_mask is_possible c.may.result.now c.args.rows.filter.now.truths c.args.query.now.pred c.args.columns.now c.may.ensures c.requires.judged)

pub word-must-requires : goal.word-must-requires
word-must-requires c = omega (arith, c.requires.number, rows_of_mask is_certain c.must.result.now c.args.rows.filter.now.truths c.args.query.now.pred c.args.columns.now c.must.ensures c.requires.judged)

pub read_block-requires : goal.read_block-requires
read_block-requires c =
    let rows = c.requires.over.rows in
    omega (arith, c.requires.number, parted_rows (stage_of c.args.query.now c.args.columns.now) c.args.rows.cells.now c.args.rows.single.now c.requires.parted)

pub overflow_cast-digits : goal.overflow_cast-digits
overflow_cast-digits c =
    let known = c.args.rows.known.now in
    let number = c.args.number in
    let row = c.loop-row.row in
    let r = row % 64 in
    let n = get_or c.numbers.new.numbers r 0 in
    let within : row < rows_of_column known = omega arith in
    let below : r < count_in_block number (rows_of_column known) = omega arith in
    let place : 64 * number + r ≡ row = omega arith in
    let is = number_there known number c.numbers.new.numbers r c.numbers.ensures below ∙ ap (λ k. number_of known.ends known.known.read (get_or known.known.prefixes k 0)) place in
    let small = digits_small known c.loop-row.sums.ends c.loop-row.invariant.ends c.rows.ensures.known row within n is in
    record { fits = omega (arith, small) }

pub add-requires-clause-cell : goal.add-requires-clause-cell
add-requires-clause-cell c =
    let stage = stage_of c.args.query.now c.args.columns.now in
    let cells = c.args.rows.cells.now in
    let rows = c.requires.over.rows in
    let row = c.loop-row.row in
    let within : row < c.args.columns.now.frame.rows = omega (arith, rows) in
    let there = block_cell cells.cells c.args.number row c.read_block.new.block c.from-cell.result c.read_block.ensures (omega (arith, rows, parted_rows stage cells c.args.rows.single.now c.requires.parted)) (omega arith) (omega arith) c.from-cell.ensures in
    let counted = cell_counted stage cells c.args.rows.single.now c.requires.parted c.requires.open_stage.knowledge row within c.from-cell.result there in
    let inv = c.loop-row.invariant in
    cell_within c.loop-row.sums inv.tallies (cells_in stage) c.from-cell.result inv.are inv.stand.cells counted

pub add-requires-clause-room : goal.add-requires-clause-room
add-requires-clause-room c =
    let stage = stage_of c.args.query.now c.args.columns.now in
    let cells = c.args.rows.cells.now in
    let kept = c.requires.open_stage in
    let rows = c.requires.over.rows in
    let row = c.loop-row.row in
    let within : row < c.args.columns.now.frame.rows = omega (arith, rows) in
    let there = block_cell cells.cells c.args.number row c.read_block.new.block c.from-cell.result c.read_block.ensures (omega (arith, rows, parted_rows stage cells c.args.rows.single.now c.requires.parted)) (omega arith) (omega arith) c.from-cell.ensures in
    let counted = cell_counted stage cells c.args.rows.single.now c.requires.parted kept.knowledge row within c.from-cell.result there in
    let inv = c.loop-row.invariant in
    record {
      tallies = inv.tallies;
      are = inv.are;
      may = may_count c.pairs_are_few.ensures stage c.args.item.now row c.from-cell.result inv.tallies within kept.open_query.few_rows counted inv.stand;
    }

pub add-requires-clause-digits : goal.add-requires-clause-digits
add-requires-clause-digits c =
    let known = c.args.rows.known.now in
    let number = c.args.number in
    let row = c.loop-row.row in
    let r = row % 64 in
    let n = get_or c.numbers.new.numbers r 0 in
    let within : row < rows_of_column known = omega arith in
    let below : r < count_in_block number (rows_of_column known) = omega arith in
    let place : 64 * number + r ≡ row = omega arith in
    let is = number_there known number c.numbers.new.numbers r c.numbers.ensures below ∙ ap (λ k. number_of known.ends known.known.read (get_or known.known.prefixes k 0)) place in
    digits_fit known c.loop-row.sums.ends c.loop-row.invariant.ends c.rows.ensures.known row within n is

pub loop-row-preserved : goal.loop-row-preserved
loop-row-preserved c =
    let query = c.args.query.now in
    let item = c.args.item.now in
    let columns = c.args.columns.now in
    let known = c.args.rows.known.now in
    let single = c.args.rows.single.now in
    let cells = c.args.rows.cells.now in
    let over = c.requires.over in
    let rows = over.rows in
    let number = c.args.number in
    let stage = stage_of query columns in
    let kept = c.requires.open_stage in
    let sums = c.loop-row.sums in
    let inv = c.loop-row.invariant in
    let row = c.loop-row.row in
    let r = row % 64 in
    let n = get_or c.numbers.new.numbers r 0 in
    let ranges = ranges_of columns.frame columns.known row in
    let alone = holds_one_key (groups_of query.shape) ranges in
    let within : row < rows_of_column known = omega arith in
    let inside : row < columns.frame.rows = omega (arith, within, rows) in
    let below : r < count_in_block number (rows_of_column known) = omega arith in
    let here : r < count_in_block number columns.frame.rows = omega (arith, below, rows) in
    let place : 64 * number + r ≡ row = omega arith in
    let words = filter_words query columns c.args.rows.filter.now.truths number c.may.result.now c.must.result.now c.word-may.result c.word-must.result c.requires.judged c.may.ensures c.must.ensures c.word-may.ensures c.word-must.ensures in
    let same : c.word-may.result ≡ c.word-must.result = omega arith in
    let never = column_never item columns known over row inv.ends.never_null in
    let perhaps = c.has_bit.ensures ∙ words.may_bit r here ∙ ap (λ k. is_possible (truth_of query.pred (ranges_of columns.frame columns.known k))) place in
    let surely = c.has_bit.ensures ∙ ap (digit_at r) same ∙ words.must_bit r here ∙ ap (λ k. is_certain (truth_of query.pred (ranges_of columns.frame columns.known k))) place in
    elim c.if-has_bit.branch [
      | then-has_bit w ↦
          (let cell = w.from-cell.result in
          let there = block_cell cells.cells number row c.read_block.new.block cell c.read_block.ensures (omega (arith, inside, parted_rows stage cells single c.requires.parted)) (omega arith) (omega arith) w.from-cell.ensures in
          let counted = cell_counted stage cells single c.requires.parted kept.knowledge row inside cell there in
          let sure : slice_get sums.certain cell ≡ _ = ap (λ l. slice_get l cell) inv.certain ∙ taken_same (cells_in stage) single cell counted ∙ cell_single stage cells single c.requires.parted kept.knowledge row inside c.cells_tell_keys.ensures cell there in
          let is = number_there known number c.numbers.new.numbers r c.numbers.ensures below ∙ ap (λ k. number_of known.ends known.known.read (get_or known.known.prefixes k 0)) place in
          let span : span_of item.arg ranges ≡ record { low = low_by sums.ends n; high = high_by sums.ends n } = column_span item columns known over row ∙ digits_span known sums.ends inv.ends c.rows.ensures.known row within n is in
          let own = ap (pair_told true alone) (sym span) ∙ own_counted query item columns row true true alone never (sym w.if-has_bit.true ∙ perhaps) (sym w.if-has_bit.true ∙ surely) refl in
          let grown = w.add.ensures.added alone sure inv.tallies inv.are in
          rw w.sums-is (record {
            tallies = grown.tallies;
            are = grown.are;
            stand = stand_more stage item row cell (cell_is stage cells single c.requires.parted kept.knowledge row inside cell there) inv.tallies grown.tallies (pair_by sums.ends alone n) inv.stand grown.added (sym own);
            ends = subst (AreEndsOf known) (sym w.add.ensures.ends) inv.ends;
            certain = w.add.ensures.certain ∙ inv.certain;
          }))
      | else-has_bit w ↦
          (let none = own_counted query item columns row false false alone never (sym w.if-has_bit.false ∙ perhaps) (sym w.if-has_bit.false ∙ surely) refl in
          rw w.sums-is (record {
            tallies = inv.tallies;
            are = inv.are;
            stand = stand_as_before stage item row inv.tallies inv.stand (sym none);
            ends = inv.ends;
            certain = inv.certain;
          }))
    ]
