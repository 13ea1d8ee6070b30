use Rattle.std.proofs.Common.{◌≡◌, to_z, of_z, ap, ◌∙◌, arith}
use Rattle.std.specs.Int.{int_wrap, w128}
use Rattle.std.proofs.lemmas.Int.{ints}
use Rattle.query_model.specs.Queries.{term_of}
use Rattle.product_sums.specs.Products.{sum_over, term_end}
use Rattle.product_sums.proofs.MaskSums.{wrapped_fits}
use Rattle.product_sums.proofs.sums.sum_ends.Goals as goal

pub returns : goal.returns
returns c =
    let whole : to_z w128 (of_z w128 c.sum_wrapped.result) ≡ c.sum_wrapped.result = omega (arith, ints) in
    whole ∙ wrapped_fits c.args.columns.now c.rows-rows.ensures.known c.args.end (term_of c.args.arg.now) c.args.mask.now c.requires.rows c.requires.fits c.sum_wrapped.result
    (c.sum_wrapped.ensures ∙ ap (λ m. int_wrap w128 (sum_over m (term_end c.args.columns.now c.args.end (term_of c.args.arg.now)))) (c.all-rows.ensures ∙ c.all-part.ensures))
