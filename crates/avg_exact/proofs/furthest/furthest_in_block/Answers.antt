use Rattle.std.proofs.Common.{◌≡◌, ◌⊎◌, ℕ, Bool, true, false, cond, ◌≤◌, ◌+◌, ◌-◌, ◌*◌, length, count_by, refl, ap, sym, subst, ◌∙◌, arith}
use mir.Val.{bool_byte}
use Rattle.std.proofs.lemmas.List.{length-map}
use Rattle.plane_kernels.specs.Rows.{kept_rows}
use Rattle.known_column.specs.Columns.{digit_of}
use Rattle.aggregates.specs.Selections.{block_of}
use Rattle.aggregates.proofs.BlockSums.{column_block}
use Rattle.avg_exact.specs.Blocks.{column_of, part_rows}
use Rattle.avg_exact.proofs.FurthestRows.{IsNarrowed, at_level, narrowed_first, narrowed_last, narrowed_next, no_row, small_enough}
use Rattle.avg_exact.proofs.Reaching.{length-that}
use Rattle.avg_exact.proofs.RowLists.{digits_are, lends, part_block_counts, passed_over}
use Rattle.avg_exact.proofs.furthest.furthest_in_block.Goals as goal

as_number : (b : Bool) → bool_byte b ≡ cond b 1 0
as_number true = refl
as_number false = refl

bit_small : (b : Bool) → cond {A = ℕ} b 1 0 ≤ 1
bit_small true = omega arith
bit_small false = omega arith

pub loop-j-init : goal.loop-j-init
loop-j-init c =
    let stage = c.args.engine.now in
    let lent = lends stage c.args.item c.args.column c.requires.over c.columns.result.now c.column-known.result.now c.number_planes-from.result.0 c.number_planes-from.result.1 c.columns.ensures
    c.column-known.ensures.column c.number_planes-from.ensures.from c.number_planes-from.ensures.to c.number_planes-from.ensures.sound in
    let column = column_block (column_of stage c.args.column) c.args.block in
    let rows = block_of c.args.block (part_rows stage c.args.item c.args.column c.args.part) in
    let counts = part_block_counts stage c.args.item c.args.column c.requires.over c.args.part c.args.block lent.sound in
    narrowed_first c.args.toward column rows counts c.number_planes-from.result.0 c.part_block-level.result lent.from_is c.part_block-level.ensures (omega (arith, c.count.ensures, c.if-count-eq0.false))

pub narrowed-next-requires : goal.narrowed-next-requires
narrowed-next-requires c =
    let stage = c.args.engine.now in
    let lent = lends stage c.args.item c.args.column c.requires.over c.columns.result.now c.column-known.result.now c.number_planes-from.result.0 c.number_planes-from.result.1 c.columns.ensures
    c.column-known.ensures.column c.number_planes-from.ensures.from c.number_planes-from.ensures.to c.number_planes-from.ensures.sound in
    let column = column_block (column_of stage c.args.column) c.args.block in
    let rows = block_of c.args.block (part_rows stage c.args.item c.args.column c.args.part) in
    let counts = part_block_counts stage c.args.item c.args.column c.requires.over c.args.part c.args.block lent.sound in
    let digits = digits_are stage c.args.item c.args.column c.requires.over c.columns.result.now c.column-known.result.now c.args.block c.loop-j.j c.plane.result.now c.of_plane-digits.result c.columns.ensures
    c.column-known.ensures.column c.plane.ensures c.of_plane-digits.ensures in
    ap length digits ∙ length-map column.known.prefixes (digit_of column.known.read c.loop-j.j) ∙ sym counts.rows
    ∙ sym (ap length c.loop-j.invariant.level_is ∙ length-that (at_level column c.loop-j.number (column.known.read - c.loop-j.j)) rows column.known.prefixes counts.rows)

pub overflow_mul-number : goal.overflow_mul-number
overflow_mul-number c =
    let stage = c.args.engine.now in
    let lent = lends stage c.args.item c.args.column c.requires.over c.columns.result.now c.column-known.result.now c.number_planes-from.result.0 c.number_planes-from.result.1 c.columns.ensures
    c.column-known.ensures.column c.number_planes-from.ensures.from c.number_planes-from.ensures.to c.number_planes-from.ensures.sound in
    let column = column_block (column_of stage c.args.column) c.args.block in
    let rows = block_of c.args.block (part_rows stage c.args.item c.args.column c.args.part) in
    let counts = part_block_counts stage c.args.item c.args.column c.requires.over c.args.part c.args.block lent.sound in
    let small = small_enough (column_of stage c.args.column) lent.sound c.number_planes-from.result.0 c.loop-j.j c.loop-j.number lent.from_is (omega (arith, c.loop-j-test.true, lent.to_is)) c.loop-j.invariant.small in
    record { fits = omega (arith, small) }

pub overflow_add-number : goal.overflow_add-number
overflow_add-number c =
    let stage = c.args.engine.now in
    let lent = lends stage c.args.item c.args.column c.requires.over c.columns.result.now c.column-known.result.now c.number_planes-from.result.0 c.number_planes-from.result.1 c.columns.ensures
    c.column-known.ensures.column c.number_planes-from.ensures.from c.number_planes-from.ensures.to c.number_planes-from.ensures.sound in
    let column = column_block (column_of stage c.args.column) c.args.block in
    let rows = block_of c.args.block (part_rows stage c.args.item c.args.column c.args.part) in
    let counts = part_block_counts stage c.args.item c.args.column c.requires.over c.args.part c.args.block lent.sound in
    let small = small_enough (column_of stage c.args.column) lent.sound c.number_planes-from.result.0 c.loop-j.j c.loop-j.number lent.from_is (omega (arith, c.loop-j-test.true, lent.to_is)) c.loop-j.invariant.small in
    let bit = c.from.ensures ∙ as_number c.narrowed-next.result.1 in
    record { fits = omega (arith, small, bit, bit_small c.narrowed-next.result.1) }

pub loop-j-preserved : goal.loop-j-preserved
loop-j-preserved c =
    let stage = c.args.engine.now in
    let lent = lends stage c.args.item c.args.column c.requires.over c.columns.result.now c.column-known.result.now c.number_planes-from.result.0 c.number_planes-from.result.1 c.columns.ensures
    c.column-known.ensures.column c.number_planes-from.ensures.from c.number_planes-from.ensures.to c.number_planes-from.ensures.sound in
    let column = column_block (column_of stage c.args.column) c.args.block in
    let rows = block_of c.args.block (part_rows stage c.args.item c.args.column c.args.part) in
    let counts = part_block_counts stage c.args.item c.args.column c.requires.over c.args.part c.args.block lent.sound in
    let digits = digits_are stage c.args.item c.args.column c.requires.over c.columns.result.now c.column-known.result.now c.args.block c.loop-j.j c.plane.result.now c.of_plane-digits.result c.columns.ensures
    c.column-known.ensures.column c.plane.ensures c.of_plane-digits.ensures in
    let digit = c.narrowed-next.result.1 in
    subst (λ x. IsNarrowed c.args.toward column rows c.number_planes-from.result.0 (c.loop-j.j + 1) (2 * c.loop-j.number + x) c.narrowed-next.result.0) (sym (c.from.ensures ∙ as_number digit))
    (narrowed_next c.args.toward column rows counts c.number_planes-from.result.0 c.loop-j.j c.loop-j.number c.loop-j.level c.of_plane-digits.result c.narrowed-next.result.0 digit (sym lent.from_is)
    (omega (arith, c.loop-j.auto.j)) (omega (arith, c.loop-j-test.true, lent.to_is)) digits c.narrowed-next.ensures.kept c.narrowed-next.ensures.some
    (subst (λ w. (digit ≡ w) ⊎ (count_by (λ b. b) (kept_rows w c.loop-j.level c.of_plane-digits.result) ≡ 0)) c.wanted.ensures c.narrowed-next.ensures.first) c.loop-j.invariant)

pub returns : goal.returns
returns c =
    let stage = c.args.engine.now in
    let lent = lends stage c.args.item c.args.column c.requires.over c.columns.result.now c.column-known.result.now c.number_planes-from.result.0 c.number_planes-from.result.1 c.columns.ensures
    c.column-known.ensures.column c.number_planes-from.ensures.from c.number_planes-from.ensures.to c.number_planes-from.ensures.sound in
    let column = column_block (column_of stage c.args.column) c.args.block in
    let rows = block_of c.args.block (part_rows stage c.args.item c.args.column c.args.part) in
    let counts = part_block_counts stage c.args.item c.args.column c.requires.over c.args.part c.args.block lent.sound in
    narrowed_last c.args.toward column rows counts c.number_planes-from.result.0 c.loop-j.j c.loop-j.number c.loop-j.level (omega (arith, c.loop-j.auto, c.loop-j-test.false, lent.to_is)) c.loop-j.invariant

pub returns-then-is_passed_over : goal.returns-then-is_passed_over
returns-then-is_passed_over c = λ r above below.
    no_row (block_of c.args.block (part_rows c.args.engine.now c.args.item c.args.column c.args.part))
    (passed_over c.args.engine.now c.args.item c.args.column c.requires.over c.args.part c.args.blocks.now c.args.block c.requires.blocks c.requires.block (sym c.is_passed_over.ensures ∙ c.if-is_passed_over.true)) r
