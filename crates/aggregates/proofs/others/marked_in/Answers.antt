use Rattle.std.proofs.Common.{◌&&◌, ◌||◌, cond, length, ap, sym, subst, ◌∙◌, arith}
use Rattle.std.specs.Int.Bits.{bit_and}
use Rattle.std.specs.Simd.Lanes.{zip2}
use Rattle.plane_kernels.specs.Rows.{block_rows, rows_of, IsPadded}
use Rattle.plane_kernels.proofs.Bitwise.{and_is_bitwise, padded-zip2, rows_of-zip2}
use Rattle.aggregates.specs.Selections.{block_of}
use Rattle.aggregates.proofs.Widening.{block-zip2}
use Rattle.aggregates.proofs.others.marked_in.Goals as goal

pub returns-clause-padded : goal.returns-clause-padded
returns-clause-padded c =
    let n = block_rows (length c.args.beyond.now) c.args.block in
    subst (IsPadded n) (sym c.and_words.ensures) (padded-zip2 bit_and (λ a b. a && b) and_is_bitwise n c.marks_in.result c.args.rows.now (omega arith) c.marks_in.ensures.padded c.requires.rows)

pub returns-clause-marked : goal.returns-clause-marked
returns-clause-marked c = λ within is.
    let n = block_rows (length c.args.beyond.now) c.args.block in
    let marks = cond c.args.with_level (zip2 (λ a b. a || b) c.args.beyond.now c.args.level.now) c.args.beyond.now in
    ap (rows_of n) c.and_words.ensures ∙ rows_of-zip2 bit_and (λ a b. a && b) and_is_bitwise n c.marks_in.result c.args.rows.now (omega arith) c.marks_in.ensures.padded c.requires.rows
    ∙ ap (λ l. zip2 (λ a b. a && b) l (rows_of n c.args.rows.now)) c.marks_in.ensures.marks ∙ ap (zip2 (λ a b. a && b) (block_of c.args.block marks)) is
    ∙ sym (block-zip2 (λ a b. a && b) c.args.block marks within)
