use Rattle.std.proofs.Common.{◌≡◌, ◌*ℤ◌, ℕ, ℤ, IfSome, to_z, of_z, sym, subst, ◌∙◌, arith}
use Rattle.std.specs.declared.option.Option.{Option}
use Rattle.std.specs.Int.{w128}
use Rattle.std.proofs.lemmas.Int.{ints}
use Rattle.product_sums.specs.declared.factors.Factor.{Factor}
use Rattle.product_sums.specs.KeptProducts.{factor_end, inner_end}
use Rattle.product_sums.specs.Products.{sum_over}
use Rattle.product_sums.proofs.Residues.{wrapped}
use Rattle.product_sums.proofs.Thirds.{outer_parts}
use Rattle.product_sums.proofs.kept_planes.Kept.sum.Goals as goal

pub returns-clause-product : goal.returns-clause-product
returns-clause-product c =
    let table = c.args.columns.now in
    let mask = c.args.mask.now in
    let f : ℕ → ℤ = inner_end table c.args.chosen.pair.first c.args.ends.parts in
    let facts = outer_parts table mask c.args.chosen.third c.args.ends.outer c.in-Some.third c.in-Some-outer.outer c.in-Some.is c.in-Some-outer.is c.requires.outer in
    let whole : to_z w128 (of_z w128 c.sum_linear.result) ≡ c.sum_linear.result = omega (arith, ints) in
    let told = c.sum_linear.ensures mask f (record {
      rows = c.requires.follow.follow.rows;
      all = omega (arith, ints) ∙ c.sum-all.ensures.sum;
      numbers = omega (arith, ints) ∙ c.sum_numbered-numbers.ensures.sum;
      clipped = λ wanted. omega (arith, ints) ∙ c.sum_top-clipped.ensures.sum (c.is_clipped.ensures ∙ wanted);
    }) facts.2 in
    subst (λ (o : Option Factor). IfSome o (λ outer. to_z w128 (of_z w128 c.sum_linear.result) ≡ wrapped (sum_over mask (λ r. factor_end table outer r *ℤ f r)))) (sym c.in-Some-outer.is) (whole ∙ told)
