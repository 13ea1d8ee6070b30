use Rattle.std.proofs.Common.{◌≡◌, ◌+◌, ◌-◌, ◌*◌, ◌<◌, ◌%◌, ◌^◌, nat_lt, nat_abs, length, to_z, of_z, ap, sym, subst, ◌∙◌, arith}
use Rattle.std.specs.Int.{w64}
use Rattle.std.proofs.lemmas.Int.{ints}
use Rattle.std.proofs.lemmas.List.{length-map}
use Rattle.daq_table.specs.Tables.{planes}
use Rattle.plane_kernels.specs.Rows.{block_rows, rows_of, IsPadded}
use Rattle.known_column.specs.Columns.{is_above_zero, is_level_zero, rows_of_column}
use Rattle.aggregates.specs.Selections.{block_of}
use Rattle.aggregates.proofs.EndSigns.{highs_above}
use Rattle.aggregates.proofs.EndSums.{Counts}
use Rattle.aggregates.proofs.others.positive_in.Goals as goal

pub returns-then-all_positive-clause-those : goal.returns-then-all_positive-clause-those
returns-then-all_positive-clause-those c = λ within long values is.
    is ∙ ap (block_of c.args.block) (c.all_positive.ensures.all c.if-all_positive.true within long values)

pub above-requires : goal.above-requires
above-requires c = (c.all_positive.ensures.some c.if-all_positive.false, omega (arith, ints, c.requires.top))

pub level-requires : goal.level-requires
level-requires c = (c.all_positive.ensures.some c.if-all_positive.false, omega (arith, ints, c.requires.top))

pub marked_in-requires : goal.marked_in-requires
marked_in-requires c =
    let column = c.args.known.now in
    let beyond : length c.above.result.now ≡ rows_of_column column = ap length c.above.ensures ∙ length-map column.known.prefixes (is_above_zero column.ends column.known.read) in
    let level : length c.level.result.now ≡ rows_of_column column = ap length c.level.ensures ∙ length-map column.known.prefixes (is_level_zero column.ends column.known.read) in
    record {
      level = level ∙ sym beyond;
      block = subst (λ n. 512 * c.args.block < n) (sym beyond) c.requires.block;
      rows = subst (λ n. IsPadded (block_rows n c.args.block) c.args.rows.now) (sym beyond) c.requires.rows;
    }

pub returns-clause-padded : goal.returns-clause-padded
returns-clause-padded c =
    let column = c.args.known.now in
    let beyond : length c.above.result.now ≡ rows_of_column column = ap length c.above.ensures ∙ length-map column.known.prefixes (is_above_zero column.ends column.known.read) in
    subst (λ n. IsPadded (block_rows n c.args.block) c.marked_in.result) beyond c.marked_in.ensures.padded

pub returns-clause-those : goal.returns-clause-those
returns-clause-those c = λ within long values is.
    let column = c.args.known.now in
    let counts : Counts column within = record { sound = c.number_planes-planes.ensures.sound; rows = long; values = values } in
    let beyond : length c.above.result.now ≡ rows_of_column column = ap length c.above.ensures ∙ length-map column.known.prefixes (is_above_zero column.ends column.known.read) in
    let d : c.unread.result ≡ planes column.ends - column.known.read = omega (arith, c.unread.ensures) in
    let base : nat_abs (to_z w64 (of_z w64 c.base.result)) ≡ nat_abs column.ends.base = ap nat_abs (let e : to_z w64 (of_z w64 c.base.result) ≡ column.ends.base = omega (arith, ints, c.base.ensures) in e) in
    let part : c.ends_above-with_level.result ≡ nat_lt (nat_abs column.ends.base % 2 ^ (planes column.ends - column.known.read) + 1) (2 ^ (planes column.ends - column.known.read)) =
    c.ends_above-with_level.ensures ∙ ap (λ n. nat_lt (n % 2 ^ c.unread.result + 1) (2 ^ c.unread.result)) base ∙ ap (λ k. nat_lt (nat_abs column.ends.base % 2 ^ k + 1) (2 ^ k)) d in
    let here : rows_of (block_rows (length c.above.result.now) c.args.block) c.args.rows.now ≡ block_of c.args.block within = subst (λ k. rows_of (block_rows k c.args.block) c.args.rows.now ≡ block_of c.args.block within) (sym beyond) is in
    ap (λ k. rows_of (block_rows k c.args.block) c.marked_in.result) (sym beyond) ∙ c.marked_in.ensures.marked within here ∙ ap (block_of c.args.block) (highs_above column within c.above.result.now c.level.result.now c.ends_above-with_level.result counts
    (c.all_positive.ensures.some c.if-all_positive.false, omega (arith, ints, c.requires.top)) c.requires.top part c.above.ensures c.level.ensures)
