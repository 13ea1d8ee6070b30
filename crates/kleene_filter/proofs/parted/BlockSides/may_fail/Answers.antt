use Rattle.std.proofs.Common.{◌≡◌, not, ◌&&◌, ◌||◌, ap, ◌∙◌, rules}
use Rattle.query_model.specs.Truths.{is_true}
use Rattle.kleene_filter.specs.Blocks.{bit_in}
use Rattle.kleene_filter.proofs.BlockBits.{and_of, or_of}
use Rattle.kleene_filter.proofs.parted.BlockSides.may_fail.Goals as goal

pub returns : goal.returns
returns c = λ row few.
    let own = c.args.self.now in
    let open_yet : c.ne.result ≡ not (is_true own.at_equal) = search rules in
    or_of _ _ _ _ _ (c.either.ensures row few) (and_of _ _ _ _ _ (c.both-neither.ensures row few) (c.unset.ensures row few) (c.unset-2.ensures row few)) (c.chosen.ensures row)
    ∙ ap (λ b. (not (bit_in row own.passed) && not (bit_in row own.equal)) || (b && bit_in row own.equal)) open_yet
