use Rattle.std.proofs.Common.{◌≤◌, ◌*◌, ℕ, ℤ, pos, length, to_z, ap, sym, ◌∙◌, arith}
use Rattle.std.specs.Int.{int_wrap, w128}
use Rattle.std.proofs.lemmas.Int.{ints}
use Rattle.product_sums.specs.KeptProducts.{first_number}
use Rattle.product_sums.proofs.MaskSums.{next_block, whole_mask}
use Rattle.product_sums.proofs.Residues.{plus_onto}
use Rattle.product_sums.proofs.first_numbers.sum_first.Goals as goal

pub loop-block-preserved : goal.loop-block-preserved
loop-block-preserved c =
    let rows = c.args.rows.now in
    let one : ℕ → ℤ = λ r. pos 1 in
    let f : ℕ → ℤ = λ r. pos (first_number c.args.columns.now c.args.column c.args.read r) in
    let within : 512 * c.loop-block.block ≤ length rows = omega (arith, c.rows.ensures, c.loop-block-test.true, c.div_ceil-block-end.ensures) in
    record {
      count = omega (arith, ints)
          ∙ plus_onto c.plus-count.result (to_z w128 c.loop-block.count-bits) c.sum_first_in_block-more.result.rows _ _ c.plus-count.ensures (omega (arith, ints)) c.loop-block.invariant.count c.sum_first_in_block-more.ensures.rows
          ∙ ap (int_wrap w128) (sym (next_block rows one c.loop-block.block within));
      numbers = omega (arith, ints)
          ∙ plus_onto c.plus-numbers.result (to_z w128 c.loop-block.numbers-bits) c.sum_first_in_block-more.result.numbers _ _ c.plus-numbers.ensures (omega (arith, ints)) c.loop-block.invariant.numbers c.sum_first_in_block-more.ensures.numbers
          ∙ ap (int_wrap w128) (sym (next_block rows f c.loop-block.block within));
    }

pub returns-clause-rows : goal.returns-clause-rows
returns-clause-rows c =
    let past : length c.args.rows.now ≤ 512 * c.loop-block.block = omega (arith, c.rows.ensures, c.loop-block-test.false, c.div_ceil-block-end.ensures) in
    c.loop-block.invariant.count ∙ ap (int_wrap w128) (whole_mask c.args.rows.now (λ r. pos 1) c.loop-block.block past)

pub returns-clause-numbers : goal.returns-clause-numbers
returns-clause-numbers c =
    let f : ℕ → ℤ = λ r. pos (first_number c.args.columns.now c.args.column c.args.read r) in
    let past : length c.args.rows.now ≤ 512 * c.loop-block.block = omega (arith, c.rows.ensures, c.loop-block-test.false, c.div_ceil-block-end.ensures) in
    c.loop-block.invariant.numbers ∙ ap (int_wrap w128) (whole_mask c.args.rows.now f c.loop-block.block past)
