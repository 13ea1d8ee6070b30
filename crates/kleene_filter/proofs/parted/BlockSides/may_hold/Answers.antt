use Rattle.std.proofs.Common.{◌≡◌, not, ◌&&◌, ◌||◌, refl, ap, ◌∙◌, rules}
use Rattle.query_model.specs.Truths.{is_false}
use Rattle.kleene_filter.specs.Blocks.{bit_in}
use Rattle.kleene_filter.proofs.BlockBits.{or_of}
use Rattle.kleene_filter.proofs.parted.BlockSides.may_hold.Goals as goal

pub returns : goal.returns
returns c = λ row few.
    let own = c.args.self.now in
    let possible : c.ne.result ≡ not (is_false own.at_equal) = search rules in
    or_of _ _ _ _ _ (c.either.ensures row few) refl (c.chosen.ensures row) ∙ ap (λ b. bit_in row own.passed || (b && bit_in row own.equal)) possible
