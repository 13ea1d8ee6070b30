use Rattle.std.proofs.Common.{◌≡◌, ◌&&◌, length, count_by, ap, sym, subst, ◌∙◌, arith}
use Rattle.std.specs.Simd.Lanes.{zip2}
use Rattle.std.specs.Int.Bits.{bit_and}
use Rattle.plane_kernels.specs.Blocks.{IsBlock}
use Rattle.plane_kernels.specs.Rows.{rows_of, IsPadded}
use Rattle.plane_kernels.proofs.Bitwise.{and_is_bitwise}
use Rattle.plane_kernels.proofs.BlockRows.{counted_rows, joined_block, joined_rows}
use Rattle.plane_kernels.proofs.RowLemmas.{length-rows_of}
use Rattle.product_sums.proofs.rows.Rows.count_words.Goals as goal

pub returns : goal.returns
returns c =
    let n = c.self.inside.rows in
    let words = c.self.inside.words in
    let others = c.args.others.now in
    let few = c.self.invariant.few in
    let long : length (rows_of n words) ≡ n = length-rows_of n words (omega (arith, few, c.self.invariant.eight)) in
    let all : length c.args.self.now ≡ n = sym (ap length c.self.view_is) ∙ long in
    let other : IsBlock n others = record { few = c.self.invariant.few; eight = omega arith; padded = subst (λ k. IsPadded k others) all c.requires } in
    let as_long : length (rows_of n others) ≡ length (rows_of n words) = length-rows_of n others (omega (arith, few, other.eight)) ∙ sym long in
    let both = joined_block bit_and (λ x y. x && y) and_is_bitwise n n words others c.self.invariant other as_long in
    c.count_both.ensures ∙ counted_rows n (zip2 bit_and words others) both
    ∙ ap (count_by (λ b. b))
    (joined_rows bit_and (λ x y. x && y) and_is_bitwise n n words others c.self.invariant other as_long
    ∙ ap (λ l. zip2 (λ x y. x && y) l (rows_of n others)) c.self.view_is
    ∙ ap (λ k. zip2 (λ x y. x && y) c.args.self.now (rows_of k others)) (sym all))
