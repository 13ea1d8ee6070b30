use Rattle.std.proofs.Common.{◌+◌, ap, sym, ◌∙◌, arith}
use Rattle.std.proofs.lemmas.Int.{ints}
use Rattle.query_model.specs.declared.query.ItemKind.TheVariants.{Min, Max}
use Rattle.query_model.specs.Answers.{answer}
use Rattle.query_model.specs.Bounds.{lows, highs, certain_lows, certain_highs}
use Rattle.aggregates.specs.declared.tally.Tally.{Tally}
use Rattle.aggregates.specs.Tallies.{pair_with}
use Rattle.aggregates.proofs.Appending.{same_tally, length-more, count-certain, count-uncertain, lows-uncertain, highs-uncertain, least_low-more, greatest_high-more, least_certain-more, greatest_certain-more}
use Rattle.aggregates.proofs.tally.Tally.add_end.Goals as goal

pub returns-else-certain : goal.returns-else-certain
returns-else-certain c = λ ps e.
    let p = pair_with c.args.certain c.args.span in
    sym (same_tally _ _ _ _ _ _ _ _ _
    (ap (λ (t : Tally). t.certain) e ∙ sym (count-uncertain ps p c.if-certain.false))
    (ap (λ (t : Tally). t.all + 1) e ∙ sym (length-more ps p))
    (least_low-more ps p _ _ _ (omega (arith, ints)) (c.lesser.ensures (lows ps) (ap (λ (t : Tally). t.least_low) e)) (omega (arith, ints)))
    (greatest_high-more ps p _ _ _ (omega (arith, ints)) (c.greater.ensures (highs ps) (ap (λ (t : Tally). t.greatest_high) e)) (omega (arith, ints)))
    (ap (λ (t : Tally). t.least_certain_high) e ∙ ap (answer Min) (sym (highs-uncertain ps p c.if-certain.false)))
    (ap (λ (t : Tally). t.greatest_certain_low) e ∙ ap (answer Max) (sym (lows-uncertain ps p c.if-certain.false)))
    (omega (arith, ints) ∙ ap (λ (t : Tally). t.low_sum) e)
    (omega (arith, ints) ∙ ap (λ (t : Tally). t.high_sum) e))

pub returns-then-certain : goal.returns-then-certain
returns-then-certain c = λ ps e.
    let p = pair_with c.args.certain c.args.span in
    sym (same_tally _ _ _ _ _ _ _ _ _
    (ap (λ (t : Tally). t.certain + 1) e ∙ sym (count-certain ps p c.if-certain.true))
    (ap (λ (t : Tally). t.all + 1) e ∙ sym (length-more ps p))
    (least_low-more ps p _ _ _ (omega (arith, ints)) (c.lesser.ensures (lows ps) (ap (λ (t : Tally). t.least_low) e)) (omega (arith, ints)))
    (greatest_high-more ps p _ _ _ (omega (arith, ints)) (c.greater.ensures (highs ps) (ap (λ (t : Tally). t.greatest_high) e)) (omega (arith, ints)))
    (least_certain-more ps p _ _ _ c.if-certain.true (omega (arith, ints)) (c.lesser-then-certain.ensures (certain_highs ps) (ap (λ (t : Tally). t.least_certain_high) e)) (omega (arith, ints)))
    (greatest_certain-more ps p _ _ _ c.if-certain.true (omega (arith, ints)) (c.greater-then-certain.ensures (certain_lows ps) (ap (λ (t : Tally). t.greatest_certain_low) e)) (omega (arith, ints)))
    (omega (arith, ints) ∙ ap (λ (t : Tally). t.low_sum) e)
    (omega (arith, ints) ∙ ap (λ (t : Tally). t.high_sum) e))
