use Rattle.std.proofs.Common.{◌≡◌, to_z, of_z, sym, arith, ◌∙◌}
use Rattle.std.specs.Int.{w128}
use Rattle.std.proofs.lemmas.Int.{ints}
use Rattle.query_model.specs.Queries.{term_of}
use Rattle.product_sums.proofs.Tallies.{high_of_all, high_of_certain, low_of_all, low_of_certain, other_sign}
use Rattle.product_sums.proofs.tally.outer_sums.Goals as goal

pub returns-then-is_never_negative-clause-low : goal.returns-then-is_never_negative-clause-low
returns-then-is_never_negative-clause-low c =
    let never = sym c.is_never_negative.ensures ∙ c.if-is_never_negative.true in
    let whole : to_z w128 (of_z w128 c.sum_kept.result) ≡ c.sum_kept.result = omega (arith, ints) in
    whole ∙ c.sum_kept.ensures.sum ∙ low_of_certain c.args.columns.now c.rows-rows.ensures.known (term_of c.args.arg.now) c.args.rows.may.now c.args.rows.must.now c.requires.rows c.requires.must never

pub returns-then-is_never_negative-clause-high : goal.returns-then-is_never_negative-clause-high
returns-then-is_never_negative-clause-high c =
    let never = sym c.is_never_negative.ensures ∙ c.if-is_never_negative.true in
    let whole : to_z w128 (of_z w128 c.sum_kept-then-is_never_negative.result) ≡ c.sum_kept-then-is_never_negative.result = omega (arith, ints) in
    whole ∙ c.sum_kept-then-is_never_negative.ensures.sum
    ∙ high_of_all c.args.columns.now c.rows-rows.ensures.known (term_of c.args.arg.now) c.args.rows.may.now c.args.rows.must.now c.requires.rows c.requires.must never

pub returns-else-is_never_negative-clause-low : goal.returns-else-is_never_negative-clause-low
returns-else-is_never_negative-clause-low c =
    let never = other_sign c.args.columns.now.frame (term_of c.args.arg.now) c.requires.sign (sym c.is_never_negative.ensures ∙ c.if-is_never_negative.false) in
    let whole : to_z w128 (of_z w128 c.sum_kept-else-is_never_negative.result) ≡ c.sum_kept-else-is_never_negative.result = omega (arith, ints) in
    whole ∙ c.sum_kept-else-is_never_negative.ensures.sum
    ∙ low_of_all c.args.columns.now c.rows-rows.ensures.known (term_of c.args.arg.now) c.args.rows.may.now c.args.rows.must.now c.requires.rows c.requires.must never

pub returns-else-is_never_negative-clause-high : goal.returns-else-is_never_negative-clause-high
returns-else-is_never_negative-clause-high c =
    let never = other_sign c.args.columns.now.frame (term_of c.args.arg.now) c.requires.sign (sym c.is_never_negative.ensures ∙ c.if-is_never_negative.false) in
    let whole : to_z w128 (of_z w128 c.sum_kept-else-is_never_negative-2.result) ≡ c.sum_kept-else-is_never_negative-2.result = omega (arith, ints) in
    whole ∙ c.sum_kept-else-is_never_negative-2.ensures.sum
    ∙ high_of_certain c.args.columns.now c.rows-rows.ensures.known (term_of c.args.arg.now) c.args.rows.may.now c.args.rows.must.now c.requires.rows c.requires.must never
