use Rattle.std.proofs.Common.{◌≡◌, ◌+◌, ◌-◌, ◌*◌, ◌&&◌, length, map, count_by, ap, sym, subst, ◌∙◌, arith}
use Rattle.std.specs.Simd.Lanes.{zip2}
use Rattle.known_column.specs.Columns.{digit_of}
use Rattle.aggregates.proofs.BlockSums.{column_block}
use Rattle.std.proofs.lemmas.List.{length-map}
use Rattle.aggregates.proofs.EndSums.{Counts, of_counts, short_end, short_few, short_further, short_start, sum_short}
use Rattle.avg_exact.specs.Blocks.{column_of}
use Rattle.avg_exact.proofs.RowLists.{digits_are, lends, part_block_counts}
use Rattle.avg_exact.proofs.planes.add_numbers.Goals as goal

pub loop-j-init : goal.loop-j-init
loop-j-init c =
    let stage = c.args.engine.now in
    let item = c.args.item in
    let at = c.args.column in
    let over = c.requires.over in
    let known = c.column-known.result.now in
    let lent = lends stage item at over c.columns.result.now known c.number_planes-from.result.0 c.number_planes-from.result.1 c.columns.ensures c.column-known.ensures.column
    c.number_planes-from.ensures.from c.number_planes-from.ensures.to c.number_planes-from.ensures.sound in
    let column = column_block (column_of stage at) c.args.block in
    let whole = part_block_counts stage item at over c.args.part c.args.block lent.sound in
    let rows = c.args.rows.now in
    let counts = of_counts column rows (subst (Counts column) (sym c.requires.rows) whole) in
    sym (short_start column rows c.number_planes-from.result.0 counts (omega (arith, lent.from_is)))

pub overflow_mul-sum : goal.overflow_mul-sum
overflow_mul-sum c =
    let stage = c.args.engine.now in
    let item = c.args.item in
    let at = c.args.column in
    let over = c.requires.over in
    let known = c.column-known.result.now in
    let lent = lends stage item at over c.columns.result.now known c.number_planes-from.result.0 c.number_planes-from.result.1 c.columns.ensures c.column-known.ensures.column
    c.number_planes-from.ensures.from c.number_planes-from.ensures.to c.number_planes-from.ensures.sound in
    let column = column_block (column_of stage at) c.args.block in
    let whole = part_block_counts stage item at over c.args.part c.args.block lent.sound in
    let rows = c.args.rows.now in
    let counts = of_counts column rows (subst (Counts column) (sym c.requires.rows) whole) in
    record { fits = omega (arith, c.loop-j.invariant, short_few column rows (column.known.read - c.loop-j.j) counts) }

pub and-requires : goal.and-requires
and-requires c =
    let stage = c.args.engine.now in
    let item = c.args.item in
    let at = c.args.column in
    let over = c.requires.over in
    let known = c.column-known.result.now in
    let lent = lends stage item at over c.columns.result.now known c.number_planes-from.result.0 c.number_planes-from.result.1 c.columns.ensures c.column-known.ensures.column
    c.number_planes-from.ensures.from c.number_planes-from.ensures.to c.number_planes-from.ensures.sound in
    let column = column_block (column_of stage at) c.args.block in
    let whole = part_block_counts stage item at over c.args.part c.args.block lent.sound in
    let rows = c.args.rows.now in
    let counts = of_counts column rows (subst (Counts column) (sym c.requires.rows) whole) in
    let digits = digits_are stage item at over c.columns.result.now known c.args.block c.loop-j.j c.plane.result.now c.of_plane-digits.result c.columns.ensures c.column-known.ensures.column
    c.plane.ensures c.of_plane-digits.ensures in
    ap length digits ∙ length-map column.known.prefixes (digit_of column.known.read c.loop-j.j) ∙ sym counts.rows

pub overflow_add-sum : goal.overflow_add-sum
overflow_add-sum c =
    let stage = c.args.engine.now in
    let item = c.args.item in
    let at = c.args.column in
    let over = c.requires.over in
    let known = c.column-known.result.now in
    let lent = lends stage item at over c.columns.result.now known c.number_planes-from.result.0 c.number_planes-from.result.1 c.columns.ensures c.column-known.ensures.column
    c.number_planes-from.ensures.from c.number_planes-from.ensures.to c.number_planes-from.ensures.sound in
    let column = column_block (column_of stage at) c.args.block in
    let whole = part_block_counts stage item at over c.args.part c.args.block lent.sound in
    let rows = c.args.rows.now in
    let counts = of_counts column rows (subst (Counts column) (sym c.requires.rows) whole) in
    record { fits = omega (arith, c.loop-j.invariant, c.from.ensures, c.count.type_inv, short_few column rows (column.known.read - c.loop-j.j) counts) }

pub loop-j-preserved : goal.loop-j-preserved
loop-j-preserved c =
    let stage = c.args.engine.now in
    let item = c.args.item in
    let at = c.args.column in
    let over = c.requires.over in
    let known = c.column-known.result.now in
    let lent = lends stage item at over c.columns.result.now known c.number_planes-from.result.0 c.number_planes-from.result.1 c.columns.ensures c.column-known.ensures.column
    c.number_planes-from.ensures.from c.number_planes-from.ensures.to c.number_planes-from.ensures.sound in
    let column = column_block (column_of stage at) c.args.block in
    let whole = part_block_counts stage item at over c.args.part c.args.block lent.sound in
    let rows = c.args.rows.now in
    let counts = of_counts column rows (subst (Counts column) (sym c.requires.rows) whole) in
    let digits = digits_are stage item at over c.columns.result.now known c.args.block c.loop-j.j c.plane.result.now c.of_plane-digits.result c.columns.ensures c.column-known.ensures.column
    c.plane.ensures c.of_plane-digits.ensures in
    let j = c.loop-j.j in
    let further = short_further column rows j counts (omega (arith, c.loop-j.auto.j, lent.from_is)) (omega (arith, c.loop-j-test.true, lent.to_is)) in
    let bits : c.from.result ≡ count_by (λ b. b) (zip2 (λ a b. a && b) rows (map (digit_of column.known.read j) column.known.prefixes)) =
    c.from.ensures ∙ c.count.ensures ∙ ap (count_by (λ b. b)) (c.and.ensures ∙ ap (zip2 (λ a b. a && b) rows) digits) in
    ap (λ s. 2 * s + c.from.result) c.loop-j.invariant ∙ ap (λ n. 2 * sum_short column rows (column.known.read - j) + n) bits ∙ sym further

pub returns-clause-sum : goal.returns-clause-sum
returns-clause-sum c =
    let stage = c.args.engine.now in
    let item = c.args.item in
    let at = c.args.column in
    let over = c.requires.over in
    let known = c.column-known.result.now in
    let lent = lends stage item at over c.columns.result.now known c.number_planes-from.result.0 c.number_planes-from.result.1 c.columns.ensures c.column-known.ensures.column
    c.number_planes-from.ensures.from c.number_planes-from.ensures.to c.number_planes-from.ensures.sound in
    let column = column_block (column_of stage at) c.args.block in
    let whole = part_block_counts stage item at over c.args.part c.args.block lent.sound in
    let rows = c.args.rows.now in
    let counts = of_counts column rows (subst (Counts column) (sym c.requires.rows) whole) in
    c.loop-j.invariant ∙ short_end column rows (column.known.read - c.loop-j.j) counts (omega (arith, c.loop-j.auto, c.loop-j-test.false, lent.to_is))

pub returns-clause-few : goal.returns-clause-few
returns-clause-few c =
    let stage = c.args.engine.now in
    let item = c.args.item in
    let at = c.args.column in
    let over = c.requires.over in
    let known = c.column-known.result.now in
    let lent = lends stage item at over c.columns.result.now known c.number_planes-from.result.0 c.number_planes-from.result.1 c.columns.ensures c.column-known.ensures.column
    c.number_planes-from.ensures.from c.number_planes-from.ensures.to c.number_planes-from.ensures.sound in
    let column = column_block (column_of stage at) c.args.block in
    let whole = part_block_counts stage item at over c.args.part c.args.block lent.sound in
    let rows = c.args.rows.now in
    let counts = of_counts column rows (subst (Counts column) (sym c.requires.rows) whole) in
    omega (arith, c.loop-j.invariant, short_few column rows (column.known.read - c.loop-j.j) counts)
