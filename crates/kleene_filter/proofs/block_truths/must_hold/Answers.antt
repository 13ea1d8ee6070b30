use Rattle.std.proofs.Common.{◌∙◌}
use Rattle.kleene_filter.proofs.BlockBits.{and_of, certain_by, not_of, or_of}
use Rattle.kleene_filter.proofs.block_truths.must_hold.Goals as goal

pub returns : goal.returns
returns c = λ row t few told.
    and_of _ _ _ _ _ (c.both.ensures row few) told.hold (not_of _ _ _ (c.unset.ensures row few) (or_of _ _ _ _ _ (c.either-other.ensures row few) told.fail told.null))
    ∙ certain_by t
