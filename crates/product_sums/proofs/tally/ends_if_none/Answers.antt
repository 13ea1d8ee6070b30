use Rattle.std.proofs.Common.{◌≡◌, count_by, refl, ◌∙◌, arith}
use Rattle.aggregates.specs.declared.ends.End.TheVariants.{Low, High}
use Rattle.query_model.specs.declared.query.ItemKind.TheVariants.{Max, Min}
use Rattle.query_model.specs.Queries.{term_of}
use Rattle.product_sums.specs.Products.{term_end}
use Rattle.product_sums.proofs.Tallies.{no_end}
use Rattle.product_sums.proofs.tally.ends_if_none.Goals as goal

pub returns-then-count-eq0-clause-low : goal.returns-then-count-eq0-clause-low
returns-then-count-eq0-clause-low c =
    let none : count_by (λ b. b) c.args.mask.now ≡ 0 = omega (arith, c.count.ensures, c.if-count-eq0.true) in
    c.no_ends-then-count-eq0.ensures.low ∙ no_end Min c.args.certain (term_end c.args.columns.now Low (term_of c.args.arg.now)) c.args.mask.now none refl

pub returns-then-count-eq0-clause-high : goal.returns-then-count-eq0-clause-high
returns-then-count-eq0-clause-high c =
    let none : count_by (λ b. b) c.args.mask.now ≡ 0 = omega (arith, c.count.ensures, c.if-count-eq0.true) in
    c.no_ends-then-count-eq0.ensures.high ∙ no_end Max c.args.certain (term_end c.args.columns.now High (term_of c.args.arg.now)) c.args.mask.now none refl
