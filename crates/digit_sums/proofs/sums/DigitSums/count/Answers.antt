use Rattle.std.proofs.Common.{◌≡◌, Some, length, refl, ap, sym, ◌∙◌}
use Rattle.query_model.specs.declared.query.ItemKind.TheVariants.{Count}
use Rattle.query_model.specs.Bounds.{certain_count}
use Rattle.aggregates.specs.declared.tally.Tally.{Tally}
use Rattle.aggregates.specs.Tallies.{tally_of}
use Rattle.digit_sums.proofs.sums.DigitSums.count.Goals as goal

pub returns : goal.returns
returns c = λ ps stands.
    let same : c.tally-tally.result ≡ tally_of c.args.self.now.tallies.kind ps = the_same _ _ (sym c.tally-tally.ensures ∙ stands.kept) in
    let certain : c.tally-tally.result.certain ≡ certain_count ps = ap (λ (t : Tally). t.certain) same in
    let all : c.tally-tally.result.all ≡ length ps = ap (λ (t : Tally). t.all) same in
    rw (c.none.ensures Count, certain, all) refl
  where
    the_same : (x y : Tally) → Some x ≡ Some y → x ≡ y
    the_same x y e = cc
