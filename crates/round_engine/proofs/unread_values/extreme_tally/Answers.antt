use Rattle.std.proofs.Common.{◌≡◌, to_z, of_z, ap, sym, ◌∙◌, arith}
use Rattle.std.specs.Int.{w64, w128}
use Rattle.std.proofs.lemmas.Int.{to_z-of_z}
use Rattle.aggregates.proofs.Appending.{same_tally}
use Rattle.aggregates.specs.declared.tally.Tally.{Tally}
use Rattle.query_model.specs.declared.query.ItemKind.TheVariants.{Min}
use Rattle.row_values.specs.ShortSpans.{interval_of}
use Rattle.aggregates.specs.Tallies.{tally_of}
use Rattle.round_engine.proofs.UnreadValues.{end_of, greatest_certain_low, greatest_high, least_certain_high, least_low}
use Rattle.round_engine.proofs.unread_values.extreme_tally.Goals as goal

pub returns : goal.returns
returns c = λ ps is have.
    let span = interval_of c.args.span in
    let low : to_z w64 (of_z w64 c.args.span.lo) ≡ c.args.span.lo = grind (arith, to_z-of_z) in
    let high : to_z w64 (of_z w64 c.args.span.hi) ≡ c.args.span.hi = grind (arith, to_z-of_z) in
    let certain = ap (λ (t : Tally). t.certain) is in
    let all = ap (λ (t : Tally). t.all) is in
    let lowest : c.end_of.result ≡ _ = c.end_of.ensures ∙ ap (end_of c.args.count.all) low ∙ ap (λ n. end_of n c.args.span.lo) all ∙ sym (least_low span ps have) in
    let highest : c.end_of-2.result ≡ _ = c.end_of-2.ensures ∙ ap (end_of c.args.count.all) high ∙ ap (λ n. end_of n c.args.span.hi) all ∙ sym (greatest_high span ps have) in
    let sure_highest : c.end_of-3.result ≡ _ = c.end_of-3.ensures ∙ ap (end_of c.args.count.certain) high ∙ ap (λ n. end_of n c.args.span.hi) certain ∙ sym (least_certain_high span ps have) in
    let sure_lowest : c.end_of-4.result ≡ _ = c.end_of-4.ensures ∙ ap (end_of c.args.count.certain) low ∙ ap (λ n. end_of n c.args.span.lo) certain ∙ sym (greatest_certain_low span ps have) in
    sym (same_tally _ _ _ _ _ _ _ _ (tally_of Min ps) certain all lowest highest sure_highest sure_lowest
    (ap (λ (t : Tally). to_z w128 (of_z w128 t.low_sum)) is) (ap (λ (t : Tally). to_z w128 (of_z w128 t.high_sum)) is))
