use Rattle.std.proofs.Common.{◌≡◌, ◌≤◌, ◌*◌, ℕ, ℤ, length, to_z, of_z, ap, sym, ◌∙◌, arith}
use Rattle.std.specs.Int.{int_wrap, w128}
use Rattle.std.proofs.lemmas.Int.{ints}
use Rattle.query_model.specs.Queries.{term_of}
use Rattle.product_sums.specs.Products.{term_end}
use Rattle.product_sums.proofs.MaskSums.{next_block, whole_mask}
use Rattle.product_sums.proofs.Residues.{plus_onto}
use Rattle.product_sums.proofs.sums.sum_wrapped.Goals as goal

pub loop-block-preserved : goal.loop-block-preserved
loop-block-preserved c =
    let whole : to_z w128 (of_z w128 c.plus-sum.result) ≡ c.plus-sum.result = omega (arith, ints) in
    let f : ℕ → ℤ = λ r. term_end c.args.columns.now c.args.end (term_of c.args.arg.now) r in
    let within : 512 * c.loop-block.block ≤ length c.args.rows.now = omega (arith, c.rows.ensures, c.loop-block-test.true, c.div_ceil-block-end.ensures) in
    whole
    ∙ plus_onto c.plus-sum.result (to_z w128 c.loop-block.sum-bits) c.sum_block.result _ _ c.plus-sum.ensures (omega (arith, ints)) c.loop-block.invariant c.sum_block.ensures
    ∙ ap (int_wrap w128) (sym (next_block c.args.rows.now f c.loop-block.block within))

pub returns : goal.returns
returns c =
    let f : ℕ → ℤ = λ r. term_end c.args.columns.now c.args.end (term_of c.args.arg.now) r in
    let past : length c.args.rows.now ≤ 512 * c.loop-block.block = omega (arith, c.rows.ensures, c.loop-block-test.false, c.div_ceil-block-end.ensures) in
    c.loop-block.invariant ∙ ap (int_wrap w128) (whole_mask c.args.rows.now f c.loop-block.block past)
