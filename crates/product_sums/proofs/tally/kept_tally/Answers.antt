use Rattle.std.proofs.Common.{◌≡◌, to_z, of_z, arith, ◌∙◌}
use Rattle.std.specs.Int.{w128}
use Rattle.std.proofs.lemmas.Int.{ints}
use Rattle.query_model.specs.Queries.{term_of}
use Rattle.product_sums.proofs.Tallies.{tally_is}
use Rattle.product_sums.proofs.tally.kept_tally.Goals as goal

pub returns-clause-tally : goal.returns-clause-tally
returns-clause-tally c =
    let low : to_z w128 (of_z w128 c.outer_sums-sums.result.low) ≡ c.outer_sums-sums.result.low = omega (arith, ints) in
    let high : to_z w128 (of_z w128 c.outer_sums-sums.result.high) ≡ c.outer_sums-sums.result.high = omega (arith, ints) in
    tally_is c.args.columns.now c.rows-rows.ensures.known (term_of c.args.arg.now) c.args.rows.may.now c.args.rows.must.now c.requires.rows c.requires.must
    c.count-certain.result c.count.result c.in_ok-ends.ends.low c.in_ok-ends.ends.high _ _ c.count-certain.ensures c.count.ensures c.in_ok-ends.ensures.low c.in_ok-ends.ensures.high
    (low ∙ c.outer_sums-sums.ensures.low) (high ∙ c.outer_sums-sums.ensures.high) c.args.kind c.requires.kind
