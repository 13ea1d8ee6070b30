use Rattle.std.proofs.Common.{◌≡◌, ◌+◌, ◌∷◌, [], ◌++◌, ap, sym, ◌∙◌, arith}
use Rattle.std.proofs.lemmas.Bool.{eqb-true}
use Rattle.std.proofs.lemmas.Int.{ints}
use Rattle.query_model.specs.declared.query.ItemKind.TheVariants.{Min, Max}
use Rattle.query_model.specs.Answers.{answer}
use Rattle.query_model.specs.Bounds.{certain_count, lows, highs, low_share, high_share}
use Rattle.aggregates.specs.declared.tally.Tally.{Tally}
use Rattle.aggregates.specs.Tallies.{pair_with}
use Rattle.aggregates.proofs.Appending.{high_end-more, if_none, length-more, low_end-more, count-more, same_tally, total-more}
use Rattle.aggregates.proofs.tally.Tally.add_sum.Goals as goal

pub returns : goal.returns
returns c = λ ps e.
    let p = pair_with c.args.certain c.args.span in
    let before : c.args.self.now.certain ≡ certain_count ps = ap (λ (t : Tally). t.certain) e in
    let certain : c.args.self.now.certain + c.one_if.result ≡ certain_count (ps ++ p ∷ []) = ap (λ n. n + c.one_if.result) before ∙ sym (count-more ps p c.one_if.result c.one_if.ensures) in
    sym (same_tally _ _ _ _ _ _ _ _ _
    certain
    (ap (λ (t : Tally). t.all + 1) e ∙ sym (length-more ps p))
    (low_end-more ps p _ _ _ certain (c.lesser_if-self.ensures (lows ps) (λ kept. let none = eqb-true _ 0 kept in ap (λ (t : Tally). t.least_low) e ∙ if_none _ (answer Min (lows ps)) (omega (arith, none, before)))) (omega (arith, ints)))
    (high_end-more ps p _ _ _ certain (c.greater_if-self.ensures (highs ps) (λ kept. let none = eqb-true _ 0 kept in ap (λ (t : Tally). t.greatest_high) e ∙ if_none _ (answer Max (highs ps)) (omega (arith, none, before)))) (omega (arith, ints)))
    (ap (λ (t : Tally). t.least_certain_high) e)
    (ap (λ (t : Tally). t.greatest_certain_low) e)
    (let sum = ap (λ (t : Tally). t.low_sum) e in let more = total-more low_share ps p in let share = c.low_share.ensures in omega (arith, ints, sum, more, share))
    (let sum = ap (λ (t : Tally). t.high_sum) e in let more = total-more high_share ps p in let share = c.high_share.ensures in omega (arith, ints, sum, more, share)))
