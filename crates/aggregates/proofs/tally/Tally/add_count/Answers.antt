use Rattle.std.proofs.Common.{◌+◌, ap, sym, ◌∙◌, arith}
use Rattle.std.proofs.lemmas.Int.{ints}
use Rattle.aggregates.specs.declared.tally.Tally.{Tally}
use Rattle.aggregates.specs.Tallies.{pair_with}
use Rattle.aggregates.proofs.Appending.{same_tally, length-more, count-more}
use Rattle.aggregates.proofs.tally.Tally.add_count.Goals as goal

pub returns : goal.returns
returns c = λ ps span e.
    let p = pair_with c.args.certain span in
    sym (same_tally _ _ _ _ _ _ _ _ _
    (ap (λ (t : Tally). t.certain + c.one_if.result) e ∙ sym (count-more ps p c.one_if.result c.one_if.ensures))
    (ap (λ (t : Tally). t.all + 1) e ∙ sym (length-more ps p))
    (ap (λ (t : Tally). t.least_low) e)
    (ap (λ (t : Tally). t.greatest_high) e)
    (ap (λ (t : Tally). t.least_certain_high) e)
    (ap (λ (t : Tally). t.greatest_certain_low) e)
    (omega (arith, ints) ∙ ap (λ (t : Tally). t.low_sum) e)
    (omega (arith, ints) ∙ ap (λ (t : Tally). t.high_sum) e))
