use Rattle.std.proofs.Common.{◌≡◌, ℕ, ◌<◌, ◌≤◌, ◌-◌, ◌^◌, ◌&&◌, ◌||◌, not, length, map, count_by, ap, sym, subst, ◌∙◌, arith}
use Rattle.std.specs.Simd.Lanes.{zip2}
use Rattle.plane_kernels.specs.Rows.{kept_rows}
use Rattle.known_column.specs.Columns.{digit_of, number_of}
use Rattle.std.proofs.lemmas.Bool.{false≢true}
use Rattle.aggregates.specs.Selections.{IsSound, block_of}
use Rattle.aggregates.proofs.BlockSums.{column_block}
use Rattle.aggregates.proofs.NumberRows.{first_plane}
use Rattle.std.proofs.lemmas.List.{length-map}
use Rattle.avg_exact.specs.Blocks.{beyond_rows, column_of, is_unsure_row, reaches, rows_with}
use Rattle.avg_exact.proofs.FurthestRows.{no_row}
use Rattle.avg_exact.proofs.Reaching.{all_pass, beyond_at, beyond_first, beyond_further, length-that, level_at, level_first, level_further, reached_at_last, rows_that, whole_digits}
use Rattle.avg_exact.proofs.RowLists.{block-zip2, digits_are, lends, lent_column, unsure_block_counts}
use Rattle.avg_exact.proofs.planes.reached_block.Goals as goal

pub loop-j-init : goal.loop-j-init
loop-j-init c =
    let stage = c.args.engine.now in
    let item = c.args.item in
    let at = c.args.column in
    let over = c.requires.over in
    let known = c.column-known.result.now in
    let lent = lends stage item at over c.columns.result.now known c.number_planes-from.result.0 c.number_planes-from.result.1 c.columns.ensures c.column-known.ensures.column
    c.number_planes-from.ensures.from c.number_planes-from.ensures.to c.number_planes-from.ensures.sound in
    let column = column_block (column_of stage at) c.args.block in
    let rows = block_of c.args.block (rows_with stage item is_unsure_row) in
    let counts = unsure_block_counts stage item at over c.args.block lent.sound in
    let k = column.known.read - c.number_planes-from.result.0 in
    let is : k ≡ column.known.read - first_plane column.ends column.known.read = ap (λ i. column.known.read - i) lent.from_is in
    let small : c.args.t < 2 ^ k = subst (λ i. c.args.t < 2 ^ i) (sym is) c.requires.short in
    record {
      level = c.uncertain_block-level.ensures ∙ level_first c.args.end column rows c.args.t counts k is small;
      beyond = c.and_not-beyond.ensures ∙ ap (λ l. zip2 (λ a b. a && not b) l l) c.uncertain_block-level.ensures ∙ beyond_first c.args.end column rows c.args.t counts k is small;
    }

pub pass-beyond-requires-clause-digits : goal.pass-beyond-requires-clause-digits
pass-beyond-requires-clause-digits c =
    let stage = c.args.engine.now in
    let item = c.args.item in
    let at = c.args.column in
    let over = c.requires.over in
    let known = c.column-known.result.now in
    let lent = lends stage item at over c.columns.result.now known c.number_planes-from.result.0 c.number_planes-from.result.1 c.columns.ensures c.column-known.ensures.column
    c.number_planes-from.ensures.from c.number_planes-from.ensures.to c.number_planes-from.ensures.sound in
    let column = column_block (column_of stage at) c.args.block in
    let rows = block_of c.args.block (rows_with stage item is_unsure_row) in
    let counts = unsure_block_counts stage item at over c.args.block lent.sound in
    let digits = digits_are stage item at over c.columns.result.now known c.args.block c.loop-j.j c.plane.result.now c.of_plane-digits.result c.columns.ensures c.column-known.ensures.column
    c.plane.ensures c.of_plane-digits.ensures in
    ap length digits ∙ length-map column.known.prefixes (digit_of column.known.read c.loop-j.j) ∙ sym counts.rows
    ∙ sym (ap length c.loop-j.invariant.level ∙ length-that (level_at column c.args.t (column.known.read - c.loop-j.j)) rows column.known.prefixes counts.rows)

pub pass-beyond-requires-clause-beyond : goal.pass-beyond-requires-clause-beyond
pass-beyond-requires-clause-beyond c =
    let stage = c.args.engine.now in
    let item = c.args.item in
    let at = c.args.column in
    let over = c.requires.over in
    let known = c.column-known.result.now in
    let lent = lends stage item at over c.columns.result.now known c.number_planes-from.result.0 c.number_planes-from.result.1 c.columns.ensures c.column-known.ensures.column
    c.number_planes-from.ensures.from c.number_planes-from.ensures.to c.number_planes-from.ensures.sound in
    let column = column_block (column_of stage at) c.args.block in
    let rows = block_of c.args.block (rows_with stage item is_unsure_row) in
    let counts = unsure_block_counts stage item at over c.args.block lent.sound in
    ap length c.loop-j.invariant.beyond ∙ length-that (beyond_at c.args.end column c.args.t (column.known.read - c.loop-j.j)) rows column.known.prefixes counts.rows
    ∙ sym (ap length c.loop-j.invariant.level ∙ length-that (level_at column c.args.t (column.known.read - c.loop-j.j)) rows column.known.prefixes counts.rows)

pub keep-level-requires : goal.keep-level-requires
keep-level-requires c =
    let stage = c.args.engine.now in
    let item = c.args.item in
    let at = c.args.column in
    let over = c.requires.over in
    let known = c.column-known.result.now in
    let lent = lends stage item at over c.columns.result.now known c.number_planes-from.result.0 c.number_planes-from.result.1 c.columns.ensures c.column-known.ensures.column
    c.number_planes-from.ensures.from c.number_planes-from.ensures.to c.number_planes-from.ensures.sound in
    let column = column_block (column_of stage at) c.args.block in
    let rows = block_of c.args.block (rows_with stage item is_unsure_row) in
    let counts = unsure_block_counts stage item at over c.args.block lent.sound in
    let digits = digits_are stage item at over c.columns.result.now known c.args.block c.loop-j.j c.plane.result.now c.of_plane-digits.result c.columns.ensures c.column-known.ensures.column
    c.plane.ensures c.of_plane-digits.ensures in
    ap length digits ∙ length-map column.known.prefixes (digit_of column.known.read c.loop-j.j) ∙ sym counts.rows
    ∙ sym (ap length c.loop-j.invariant.level ∙ length-that (level_at column c.args.t (column.known.read - c.loop-j.j)) rows column.known.prefixes counts.rows)

pub loop-j-preserved : goal.loop-j-preserved
loop-j-preserved c =
    let stage = c.args.engine.now in
    let item = c.args.item in
    let at = c.args.column in
    let over = c.requires.over in
    let known = c.column-known.result.now in
    let lent = lends stage item at over c.columns.result.now known c.number_planes-from.result.0 c.number_planes-from.result.1 c.columns.ensures c.column-known.ensures.column
    c.number_planes-from.ensures.from c.number_planes-from.ensures.to c.number_planes-from.ensures.sound in
    let column = column_block (column_of stage at) c.args.block in
    let rows = block_of c.args.block (rows_with stage item is_unsure_row) in
    let counts = unsure_block_counts stage item at over c.args.block lent.sound in
    let digits = digits_are stage item at over c.columns.result.now known c.args.block c.loop-j.j c.plane.result.now c.of_plane-digits.result c.columns.ensures c.column-known.ensures.column
    c.plane.ensures c.of_plane-digits.ensures in
    let j = c.loop-j.j in
    let digit = c.digit_of-digit.result in
    let from : first_plane column.ends column.known.read ≤ j = omega (arith, c.loop-j.auto.j, lent.from_is) in
    let below : j < column.known.read = omega (arith, c.loop-j-test.true, lent.to_is) in
    let whole = whole_digits c.args.t column.known.read c.number_planes-from.result.1 j digit lent.to_is below c.digit_of-digit.ensures in
    let bits = map (digit_of column.known.read j) column.known.prefixes in
    record {
      level = c.keep-level.ensures ∙ ap (kept_rows digit c.loop-j.level) digits ∙ ap (λ l. kept_rows digit l bits) c.loop-j.invariant.level
          ∙ level_further c.args.end column rows c.args.t counts j digit from below whole;
      beyond = c.pass-beyond.ensures ∙ ap (beyond_rows c.args.end digit c.loop-j.beyond c.loop-j.level) digits ∙ ap (λ l. beyond_rows c.args.end digit c.loop-j.beyond l bits) c.loop-j.invariant.level
          ∙ ap (λ l. beyond_rows c.args.end digit l (rows_that (level_at column c.args.t (column.known.read - j)) rows column.known.prefixes) bits) c.loop-j.invariant.beyond
          ∙ beyond_further c.args.end column rows c.args.t counts j digit from below whole;
    }

pub or-requires : goal.or-requires
or-requires c =
    let stage = c.args.engine.now in
    let item = c.args.item in
    let at = c.args.column in
    let over = c.requires.over in
    let known = c.column-known.result.now in
    let lent = lends stage item at over c.columns.result.now known c.number_planes-from.result.0 c.number_planes-from.result.1 c.columns.ensures c.column-known.ensures.column
    c.number_planes-from.ensures.from c.number_planes-from.ensures.to c.number_planes-from.ensures.sound in
    let column = column_block (column_of stage at) c.args.block in
    let rows = block_of c.args.block (rows_with stage item is_unsure_row) in
    let counts = unsure_block_counts stage item at over c.args.block lent.sound in
    ap length c.loop-j.invariant.level ∙ length-that (level_at column c.args.t (column.known.read - c.loop-j.j)) rows column.known.prefixes counts.rows
    ∙ sym (ap length c.loop-j.invariant.beyond ∙ length-that (beyond_at c.args.end column c.args.t (column.known.read - c.loop-j.j)) rows column.known.prefixes counts.rows)

pub returns : goal.returns
returns c =
    let stage = c.args.engine.now in
    let item = c.args.item in
    let at = c.args.column in
    let over = c.requires.over in
    let known = c.column-known.result.now in
    let lent = lends stage item at over c.columns.result.now known c.number_planes-from.result.0 c.number_planes-from.result.1 c.columns.ensures c.column-known.ensures.column
    c.number_planes-from.ensures.from c.number_planes-from.ensures.to c.number_planes-from.ensures.sound in
    let column = column_block (column_of stage at) c.args.block in
    let rows = block_of c.args.block (rows_with stage item is_unsure_row) in
    let counts = unsure_block_counts stage item at over c.args.block lent.sound in
    let k = column.known.read - c.loop-j.j in
    let none : k ≡ 0 = omega (arith, c.loop-j.auto, c.loop-j-test.false, lent.to_is) in
    c.or.ensures ∙ ap (zip2 (λ a b. a || b) c.loop-j.beyond) c.loop-j.invariant.level
    ∙ ap (λ l. zip2 (λ a b. a || b) l (rows_that (level_at column c.args.t k) rows column.known.prefixes)) c.loop-j.invariant.beyond
    ∙ reached_at_last c.args.end column rows c.args.t counts k none
    ∙ sym (block-zip2 (λ has p. has && reaches c.args.end c.args.t (number_of column.ends column.known.read p)) c.args.block (rows_with stage item is_unsure_row) (column_of stage at).known.prefixes)

pub returns-then-count-eq0 : goal.returns-then-count-eq0
returns-then-count-eq0 c =
    let stage = c.args.engine.now in
    let column = column_block (column_of stage c.args.column) c.args.block in
    let rows = block_of c.args.block (rows_with stage c.args.item is_unsure_row) in
    let counts = unsure_block_counts stage c.args.item c.args.column c.requires.over c.args.block
    (subst IsSound (lent_column stage c.args.item c.args.column c.requires.over c.columns.result.now c.column-known.result.now c.columns.ensures c.column-known.ensures.column) c.number_planes-from.ensures.sound) in
    let none : count_by (λ b. b) rows ≡ 0 = sym (ap (count_by (λ b. b)) c.uncertain_block-level.ensures) ∙ sym c.count.ensures ∙ omega (arith, c.if-count-eq0.true) in
    let reached = λ (p : ℕ). reaches c.args.end c.args.t (number_of column.ends column.known.read p) in
    c.uncertain_block-level.ensures
    ∙ all_pass reached rows column.known.prefixes counts.rows (λ r h has. absurd (false≢true (sym (no_row rows none r) ∙ has)))
    ∙ sym (block-zip2 (λ has p. has && reached p) c.args.block (rows_with stage c.args.item is_unsure_row) (column_of stage c.args.column).known.prefixes)
