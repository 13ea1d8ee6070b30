use Rattle.std.proofs.Common.{◌≡◌, ◌||◌, cond, length, ap, sym, subst, ◌∙◌, arith}
use Rattle.std.specs.Int.Bits.{bit_or}
use Rattle.std.specs.Simd.Lanes.{zip2}
use Rattle.plane_kernels.specs.Rows.{block_rows, rows_of, IsPadded}
use Rattle.plane_kernels.proofs.Bitwise.{or_is_bitwise, padded-zip2, rows_of-zip2}
use Rattle.aggregates.specs.Selections.{block_of}
use Rattle.aggregates.proofs.Widening.{block-zip2}
use Rattle.aggregates.proofs.others.marks_in.Goals as goal

pub returns-then-with_level-clause-padded : goal.returns-then-with_level-clause-padded
returns-then-with_level-clause-padded c =
    let n = block_rows (length c.args.beyond.now) c.args.block in
    let level : IsPadded n c.block-then-with_level.result = subst (λ k. IsPadded (block_rows k c.args.block) c.block-then-with_level.result) c.requires.level c.block-then-with_level.ensures.padded in
    subst (IsPadded n) (sym c.or_words.ensures) (padded-zip2 bit_or (λ a b. a || b) or_is_bitwise n c.block.result c.block-then-with_level.result (omega arith) c.block.ensures.padded level)

pub returns-then-with_level-clause-marks : goal.returns-then-with_level-clause-marks
returns-then-with_level-clause-marks c =
    let n = block_rows (length c.args.beyond.now) c.args.block in
    let level : IsPadded n c.block-then-with_level.result = subst (λ k. IsPadded (block_rows k c.args.block) c.block-then-with_level.result) c.requires.level c.block-then-with_level.ensures.padded in
    let rows : rows_of n c.block-then-with_level.result ≡ block_of c.args.block c.args.level.now =
    subst (λ k. rows_of (block_rows k c.args.block) c.block-then-with_level.result ≡ block_of c.args.block c.args.level.now) c.requires.level c.block-then-with_level.ensures.rows in
    ap (rows_of n) c.or_words.ensures ∙ rows_of-zip2 bit_or (λ a b. a || b) or_is_bitwise n c.block.result c.block-then-with_level.result (omega arith) c.block.ensures.padded level
    ∙ ap (λ l. zip2 (λ a b. a || b) l (rows_of n c.block-then-with_level.result)) c.block.ensures.rows ∙ ap (zip2 (λ a b. a || b) (block_of c.args.block c.args.beyond.now)) rows
    ∙ sym (block-zip2 (λ a b. a || b) c.args.block c.args.beyond.now c.args.level.now)
    ∙ ap (λ b. block_of c.args.block (cond b (zip2 (λ a b. a || b) c.args.beyond.now c.args.level.now) c.args.beyond.now)) (sym c.if-with_level.true)
