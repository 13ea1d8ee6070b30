use Rattle.std.proofs.Common.{◌≡◌, ◌-◌, ◌*◌, ◌<◌, ◌%◌, ◌^◌, nat_lt, nat_abs, length, to_z, of_z, ap, sym, subst, ◌∙◌, arith}
use Rattle.std.specs.Int.{w64}
use Rattle.std.proofs.lemmas.Int.{ints}
use Rattle.std.proofs.lemmas.List.{length-map}
use Rattle.daq_table.specs.Tables.{planes}
use Rattle.plane_kernels.specs.Rows.{block_rows, rows_of, IsPadded}
use Rattle.known_column.specs.Columns.{is_below_zero, is_level_zero, rows_of_column}
use Rattle.aggregates.specs.Selections.{block_of}
use Rattle.aggregates.proofs.EndSigns.{all_lows_below, lows_below}
use Rattle.aggregates.proofs.EndSums.{Counts}
use Rattle.aggregates.proofs.others.negative_in.Goals as goal

pub returns-then-top-lt0-clause-those : goal.returns-then-top-lt0-clause-those
returns-then-top-lt0-clause-those c = λ within long values is.
    let column = c.args.known.now in
    let counts : Counts column within = record { sound = c.number_planes-planes.ensures.sound; rows = long; values = values } in
    is ∙ ap (block_of c.args.block) (all_lows_below column within counts (omega (arith, ints, c.if-top-lt0.true, c.top.ensures)))

pub below-requires : goal.below-requires
below-requires c = (omega (arith, ints, c.requires.base), omega (arith, ints, c.if-top-lt0.false, c.top.ensures))

pub level-requires : goal.level-requires
level-requires c = (omega (arith, ints, c.requires.base), omega (arith, ints, c.if-top-lt0.false, c.top.ensures))

pub marked_in-requires : goal.marked_in-requires
marked_in-requires c =
    let column = c.args.known.now in
    let beyond : length c.below.result.now ≡ rows_of_column column = ap length c.below.ensures ∙ length-map column.known.prefixes (is_below_zero column.ends column.known.read) in
    let level : length c.level.result.now ≡ rows_of_column column = ap length c.level.ensures ∙ length-map column.known.prefixes (is_level_zero column.ends column.known.read) in
    record {
      level = level ∙ sym beyond;
      block = subst (λ n. 512 * c.args.block < n) (sym beyond) c.requires.block;
      rows = subst (λ n. IsPadded (block_rows n c.args.block) c.args.rows.now) (sym beyond) c.requires.rows;
    }

pub returns-clause-padded : goal.returns-clause-padded
returns-clause-padded c =
    let column = c.args.known.now in
    let beyond : length c.below.result.now ≡ rows_of_column column = ap length c.below.ensures ∙ length-map column.known.prefixes (is_below_zero column.ends column.known.read) in
    subst (λ n. IsPadded (block_rows n c.args.block) c.marked_in.result) beyond c.marked_in.ensures.padded

pub returns-clause-those : goal.returns-clause-those
returns-clause-those c = λ within long values is.
    let column = c.args.known.now in
    let counts : Counts column within = record { sound = c.number_planes-planes.ensures.sound; rows = long; values = values } in
    let beyond : length c.below.result.now ≡ rows_of_column column = ap length c.below.ensures ∙ length-map column.known.prefixes (is_below_zero column.ends column.known.read) in
    let d : c.unread.result ≡ planes column.ends - column.known.read = omega (arith, c.unread.ensures) in
    let base : nat_abs (to_z w64 (of_z w64 c.base.result)) ≡ nat_abs column.ends.base = ap nat_abs (let e : to_z w64 (of_z w64 c.base.result) ≡ column.ends.base = omega (arith, ints, c.base.ensures) in e) in
    let part : c.begins_below-with_level.result ≡ nat_lt 0 (nat_abs column.ends.base % 2 ^ (planes column.ends - column.known.read)) =
    c.begins_below-with_level.ensures ∙ ap (λ n. nat_lt 0 (n % 2 ^ c.unread.result)) base ∙ ap (λ k. nat_lt 0 (nat_abs column.ends.base % 2 ^ k)) d in
    let here : rows_of (block_rows (length c.below.result.now) c.args.block) c.args.rows.now ≡ block_of c.args.block within = subst (λ k. rows_of (block_rows k c.args.block) c.args.rows.now ≡ block_of c.args.block within) (sym beyond) is in
    ap (λ k. rows_of (block_rows k c.args.block) c.marked_in.result) (sym beyond) ∙ c.marked_in.ensures.marked within here ∙ ap (block_of c.args.block) (lows_below column within c.below.result.now c.level.result.now c.begins_below-with_level.result counts
    (omega (arith, ints, c.requires.base), omega (arith, ints, c.if-top-lt0.false, c.top.ensures)) part c.below.ensures c.level.ensures)
