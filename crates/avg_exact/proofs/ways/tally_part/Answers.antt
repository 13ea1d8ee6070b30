use Rattle.std.proofs.Common.{◌≡◌, ◌≤◌, count_by, sym, subst, ap, ◌∙◌, arith, to_z, of_z}
use Rattle.std.specs.Int.{w128}
use Rattle.std.proofs.lemmas.Int.{ints}
use Rattle.known_column.specs.Columns.{KnownColumn}
use Rattle.avg_exact.specs.Blocks.{column_of, part_rows}
use Rattle.avg_exact.specs.Measures.{IsFewMeasure, sum_at}
use Rattle.avg_exact.specs.Ways.{part_tally, taken_of}
use Rattle.avg_exact.proofs.Measured.{few_measured, measured}
use Rattle.avg_exact.proofs.RowLists.{lent_column, lent_sound, part_counts}
use Rattle.avg_exact.proofs.RowPasses.{same_tally}
use Rattle.avg_exact.proofs.ways.tally_part.Goals as goal

pub sum_at-requires : goal.sum_at-requires
sum_at-requires c =
    let stage = c.args.engine.now in
    let is = lent_column stage c.args.item c.args.column c.requires.over c.columns.result.now c.column-known.result.now c.columns.ensures c.column-known.ensures.column in
    let sound = lent_sound stage c.args.item c.args.column c.requires.over c.columns.result.now c.column-known.result.now c.columns.ensures c.column-known.ensures.column c.rows-rows.ensures.known
    (subst (λ n. n ≤ 64) c.width-width.ensures.digits c.width-width.ensures.few) in
    let column = column_of stage c.args.column in
    let rows = part_rows stage c.args.item c.args.column c.args.part in
    let counts = part_counts stage c.args.item c.args.column c.requires.over c.args.part sound in
    record { few = subst (λ (k : KnownColumn). IsFewMeasure k c.args.measure) (sym is) (few_measured column rows c.args.measure counts c.requires.measure) }

pub returns-in-Certain-clause-tally : goal.returns-in-Certain-clause-tally
returns-in-Certain-clause-tally c =
    let stage = c.args.engine.now in
    let is = lent_column stage c.args.item c.args.column c.requires.over c.columns.result.now c.column-known.result.now c.columns.ensures c.column-known.ensures.column in
    let sound = lent_sound stage c.args.item c.args.column c.requires.over c.columns.result.now c.column-known.result.now c.columns.ensures c.column-known.ensures.column c.rows-rows.ensures.known
    (subst (λ n. n ≤ 64) c.width-width.ensures.digits c.width-width.ensures.few) in
    let column = column_of stage c.args.column in
    let rows = part_rows stage c.args.item c.args.column c.args.part in
    let counts = part_counts stage c.args.item c.args.column c.requires.over c.args.part sound in
    let whole : to_z w128 (of_z w128 c.sum_at.result) ≡ c.sum_at.result = omega (arith, ints, c.sum_at.ensures.few.0, c.sum_at.ensures.few.1) in
    let sum = whole ∙ c.sum_at.ensures.sum ∙ ap (λ (k : KnownColumn). sum_at c.args.end k c.args.measure) is ∙ measured column rows c.args.measure counts c.requires.measure c.args.end in
    same_tally _ (part_tally c.args.end column c.args.part rows) sum c.requires.measure.rows_is (sym (ap (λ p. taken_of p (count_by (λ b. b) rows)) c.in-Certain.is))

pub returns-in-Reached-clause-tally : goal.returns-in-Reached-clause-tally
returns-in-Reached-clause-tally c =
    let stage = c.args.engine.now in
    let is = lent_column stage c.args.item c.args.column c.requires.over c.columns.result.now c.column-known.result.now c.columns.ensures c.column-known.ensures.column in
    let sound = lent_sound stage c.args.item c.args.column c.requires.over c.columns.result.now c.column-known.result.now c.columns.ensures c.column-known.ensures.column c.rows-rows.ensures.known
    (subst (λ n. n ≤ 64) c.width-width.ensures.digits c.width-width.ensures.few) in
    let column = column_of stage c.args.column in
    let rows = part_rows stage c.args.item c.args.column c.args.part in
    let counts = part_counts stage c.args.item c.args.column c.requires.over c.args.part sound in
    let whole : to_z w128 (of_z w128 c.sum_at.result) ≡ c.sum_at.result = omega (arith, ints, c.sum_at.ensures.few.0, c.sum_at.ensures.few.1) in
    let sum = whole ∙ c.sum_at.ensures.sum ∙ ap (λ (k : KnownColumn). sum_at c.args.end k c.args.measure) is ∙ measured column rows c.args.measure counts c.requires.measure c.args.end in
    same_tally _ (part_tally c.args.end column c.args.part rows) sum c.requires.measure.rows_is (c.requires.measure.rows_is ∙ sym (ap (λ p. taken_of p (count_by (λ b. b) rows)) c.in-Reached.is))

pub returns-in-Certain-clause-few : goal.returns-in-Certain-clause-few
returns-in-Certain-clause-few c =
    let stage = c.args.engine.now in
    let is = lent_column stage c.args.item c.args.column c.requires.over c.columns.result.now c.column-known.result.now c.columns.ensures c.column-known.ensures.column in
    let sound = lent_sound stage c.args.item c.args.column c.requires.over c.columns.result.now c.column-known.result.now c.columns.ensures c.column-known.ensures.column c.rows-rows.ensures.known
    (subst (λ n. n ≤ 64) c.width-width.ensures.digits c.width-width.ensures.few) in
    let column = column_of stage c.args.column in
    let rows = part_rows stage c.args.item c.args.column c.args.part in
    let counts = part_counts stage c.args.item c.args.column c.requires.over c.args.part sound in
    let few = few_measured column rows c.args.measure counts c.requires.measure in
    record { sum = (omega (arith, ints, c.sum_at.ensures.few.0), omega (arith, ints, c.sum_at.ensures.few.1)); rows = few.rows; taken = omega arith }

pub returns-in-Reached-clause-few : goal.returns-in-Reached-clause-few
returns-in-Reached-clause-few c =
    let stage = c.args.engine.now in
    let is = lent_column stage c.args.item c.args.column c.requires.over c.columns.result.now c.column-known.result.now c.columns.ensures c.column-known.ensures.column in
    let sound = lent_sound stage c.args.item c.args.column c.requires.over c.columns.result.now c.column-known.result.now c.columns.ensures c.column-known.ensures.column c.rows-rows.ensures.known
    (subst (λ n. n ≤ 64) c.width-width.ensures.digits c.width-width.ensures.few) in
    let column = column_of stage c.args.column in
    let rows = part_rows stage c.args.item c.args.column c.args.part in
    let counts = part_counts stage c.args.item c.args.column c.requires.over c.args.part sound in
    let few = few_measured column rows c.args.measure counts c.requires.measure in
    record { sum = (omega (arith, ints, c.sum_at.ensures.few.0), omega (arith, ints, c.sum_at.ensures.few.1)); rows = few.rows; taken = few.rows }
