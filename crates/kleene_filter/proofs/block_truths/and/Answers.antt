use Rattle.std.proofs.Common.{◌∙◌}
use Rattle.kleene_filter.proofs.BlockBits.{and_of, null_beside, or_of}
use Rattle.kleene_filter.proofs.block_truths.and.Goals as goal

pub returns : goal.returns
returns c = λ row a b few x y. record {
  hold = and_of _ _ _ _ _ (c.both.ensures row few) x.hold y.hold;
  fail = or_of _ _ _ _ _ (c.either.ensures row few) x.fail y.fail;
  null = or_of _ _ _ _ _ (c.either-2.ensures row few) (and_of _ _ _ _ _ (c.both-2.ensures row few) x.null (or_of _ _ _ _ _ (c.either-null_or_true.ensures row few) y.null y.hold)) (and_of _ _ _ _ _ (c.both-3.ensures row few) x.hold y.null)
      ∙ null_beside a.may_be_null b.may_be_null a.may_hold b.may_hold;
}
