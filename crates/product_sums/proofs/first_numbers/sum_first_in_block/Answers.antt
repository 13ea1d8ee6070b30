use Rattle.std.proofs.Common.{◌≡◌, ◌+◌, ◌*◌, pos, FitsSigned, length, count_by, to_z, of_z, ap, sym, ◌∙◌, arith}
use Rattle.std.specs.Int.{int_wrap, w128}
use Rattle.std.proofs.lemmas.Int.{ints, int_wrap_fits}
use Rattle.aggregates.specs.Selections.{block_of}
use Rattle.product_sums.specs.KeptProducts.{first_number}
use Rattle.product_sums.specs.Products.{sum_over}
use Rattle.product_sums.proofs.DigitSums.{long_block}
use Rattle.product_sums.proofs.PairSums.{nothing}
use Rattle.product_sums.proofs.RowSums.{over_none, over_ones}
use Rattle.product_sums.proofs.first_numbers.sum_first_in_block.Goals as goal

pub returns-then-count-eq0-clause-rows : goal.returns-then-count-eq0-clause-rows
returns-then-count-eq0-clause-rows c =
    let none : count_by (λ b. b) (block_of c.args.block c.args.rows.now) ≡ 0 = ap (count_by (λ b. b)) (sym c.block-here.ensures) ∙ sym c.count-count.ensures ∙ omega (arith, c.if-count-eq0.true) in
    nothing ∙ ap (int_wrap w128) (sym (over_none (block_of c.args.block c.args.rows.now) (λ i. pos 1) none))

pub returns-then-count-eq0-clause-numbers : goal.returns-then-count-eq0-clause-numbers
returns-then-count-eq0-clause-numbers c =
    let none : count_by (λ b. b) (block_of c.args.block c.args.rows.now) ≡ 0 = ap (count_by (λ b. b)) (sym c.block-here.ensures) ∙ sym c.count-count.ensures ∙ omega (arith, c.if-count-eq0.true) in
    nothing ∙ ap (int_wrap w128) (sym (over_none (block_of c.args.block c.args.rows.now) (λ i. pos (first_number c.args.columns.now c.args.column c.args.read (512 * c.args.block + i))) none))

pub sum_first_digits-requires-clause-rows : goal.sum_first_digits-requires-clause-rows
sum_first_digits-requires-clause-rows c = record {
  known = c.rows-rows.ensures.known;
  within = c.requires.block;
  count = ap length c.block-here.ensures ∙ long_block c.args.rows.now c.args.block c.args.columns.now.frame.rows c.requires.rows;
  factors_are = tt;
  few_factors = omega arith;
  values = λ i has. tt;
}

pub returns-clause-rows : goal.returns-clause-rows
returns-clause-rows c =
    let small : FitsSigned w128 (pos c.count-count.result) = record { sfits = omega (arith, c.count-count.type_inv) } in
    omega (arith, ints) ∙ c.from.ensures ∙ sym (int_wrap_fits w128 (pos c.count-count.result) small) ∙ ap (λ n. int_wrap w128 (pos n)) (c.count-count.ensures ∙ ap (count_by (λ b. b)) c.block-here.ensures)
    ∙ ap (int_wrap w128) (sym (over_ones (block_of c.args.block c.args.rows.now)))

pub returns-clause-numbers : goal.returns-clause-numbers
returns-clause-numbers c =
    let whole : to_z w128 (of_z w128 c.sum_first_digits.result) ≡ c.sum_first_digits.result = omega (arith, ints) in
    whole ∙ c.sum_first_digits.ensures ∙ ap (λ m. int_wrap w128 (sum_over m (λ i. pos (first_number c.args.columns.now c.args.column c.args.read (512 * c.args.block + i))))) c.block-here.ensures
