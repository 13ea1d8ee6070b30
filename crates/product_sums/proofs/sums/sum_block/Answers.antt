use Rattle.std.proofs.Common.{◌≡◌, ℕ, ◌+◌, ◌*◌, ℤ, pos, ◌*ℤ◌, FitsSigned, false, length, count_by, get_or, to_z, of_z, ap, sym, ◌∙◌, arith}
use Rattle.std.specs.Int.{int_wrap, w128}
use Rattle.std.proofs.lemmas.Int.{ints, int_wrap_fits}
use Rattle.aggregates.specs.Selections.{block_of}
use Rattle.query_model.specs.Queries.{term_of}
use Rattle.product_sums.specs.Products.{sum_over, term_end}
use Rattle.product_sums.proofs.DigitSums.{long_block}
use Rattle.product_sums.proofs.MaskSums.{row_of_block}
use Rattle.product_sums.proofs.RowSums.{over_none, over_same}
use Rattle.product_sums.proofs.sums.sum_block.Goals as goal

pub returns-then-count-eq0 : goal.returns-then-count-eq0
returns-then-count-eq0 c =
    let fits : FitsSigned w128 (pos 0) = record { sfits = omega arith } in
    let zero : c.count.result ≡ 0 = omega (arith, c.if-count-eq0.true) in
    let none : count_by (λ b. b) (block_of c.args.block c.args.rows.now) ≡ 0 = ap (count_by (λ b. b)) (sym c.block-here.ensures) ∙ sym c.count.ensures ∙ zero in
    sym (int_wrap_fits w128 (pos 0) fits) ∙ ap (int_wrap w128) (sym (over_none (block_of c.args.block c.args.rows.now) (λ i. term_end c.args.columns.now c.args.end (term_of c.args.arg.now) (512 * c.args.block + i)) none))

pub sum_products-requires : goal.sum_products-requires
sum_products-requires c = record {
  known = c.rows-rows.ensures.known;
  within = c.requires.block;
  count = ap length c.block-here.ensures ∙ long_block c.args.rows.now c.args.block c.args.columns.now.frame.rows c.requires.rows;
  factors_are = (c.requires.sums.columns, c.requires.sums.signs, c.requires.sums.wide, tt);
  few_factors = omega (arith, c.requires.sums.few_factors);
  values = λ i has. (c.requires.values (512 * c.args.block + i) (row_of_block c.args.rows.now c.args.block i (ap (λ m. get_or m i false) (sym c.block-here.ensures) ∙ has)), tt);
}

pub returns : goal.returns
returns c =
    let whole : to_z w128 (of_z w128 c.sum_products.result) ≡ c.sum_products.result = omega (arith, ints) in
    let f : ℕ → ℤ = λ i. term_end c.args.columns.now c.args.end (term_of c.args.arg.now) (512 * c.args.block + i) in
    whole ∙ c.sum_products.ensures
    ∙ ap (λ m. int_wrap w128 (sum_over m (λ i. f i *ℤ pos 1))) c.block-here.ensures
    ∙ ap (int_wrap w128) (over_same (block_of c.args.block c.args.rows.now) (λ i. f i *ℤ pos 1) f (λ i has. alone (f i)))
  where
    alone : (z : ℤ) → z *ℤ pos 1 ≡ z
    alone z = omega (arith, ints)
