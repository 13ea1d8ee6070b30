use Rattle.std.proofs.Common.{◌≡◌, ◌≢◌, ◌==◌, Bool, false, ◌-◌, ℕ, pos, ◌+ℤ◌, ◌*ℤ◌, None, to_z, of_z, cond, ap, sym, ◌∙◌, arith, if◌then◌else◌}
use Rattle.std.specs.Int.{int_max, int_min, w64, w128}
use Rattle.std.proofs.lemmas.Bool.{eq-eqb}
use Rattle.std.proofs.lemmas.Bool.Decides.{nat_tests}
use Rattle.std.proofs.lemmas.Int.{to_z-of_z}
use Rattle.aggregates.proofs.Appending.{same_tally}
use Rattle.aggregates.specs.declared.tally.Tally.{Tally}
use Rattle.aggregates.specs.Tallies.{tally_of}
use Rattle.query_model.specs.declared.query.ItemKind.TheVariants.{Sum}
use Rattle.query_model.specs.Bounds.{certain_count}
use Rattle.row_values.specs.ShortSpans.{interval_of}
use Rattle.round_engine.proofs.UnreadValues.{end_of, ended, greatest_high, high_sum, least_low, low_sum}
use Rattle.round_engine.proofs.unread_values.sum_tally.Goals as goal
use Rattle.round_engine.proofs.unread_values.sum_tally.Goals.{then-count-eq0, else-count-eq0}

pub returns : goal.returns
returns c = λ ps is have.
    let span = interval_of c.args.span in
    let low : to_z w64 (of_z w64 c.args.span.lo) ≡ c.args.span.lo = grind (arith, to_z-of_z) in
    let high : to_z w64 (of_z w64 c.args.span.hi) ≡ c.args.span.hi = grind (arith, to_z-of_z) in
    let least : to_z w64 (of_z w64 c.min.result) ≡ int_min c.args.span.lo (pos 0) = to_z-of_z w64 c.min.result (record { sfits = c.min.type_inv }) ∙ c.min.ensures.value ∙ ap (λ z. int_min z (pos 0)) low in
    let greatest : to_z w64 (of_z w64 c.max.result) ≡ int_max c.args.span.hi (pos 0) = to_z-of_z w64 c.max.result (record { sfits = c.max.type_inv }) ∙ c.max.ensures.value ∙ ap (λ z. int_max z (pos 0)) high in
    let certain = ap (λ (t : Tally). t.certain) is in
    let all = ap (λ (t : Tally). t.all) is in
    let rows = c.args.count.certain in
    let others = c.args.count.all - c.args.count.certain in
    let lows : c.share_sum.result ≡ _ = c.share_sum.ensures ∙ ap (λ z. (z *ℤ pos rows) +ℤ (to_z w64 (of_z w64 c.min.result) *ℤ pos others)) low
    ∙ ap (λ z. (c.args.span.lo *ℤ pos rows) +ℤ (z *ℤ pos others)) least ∙ ap (λ n. (c.args.span.lo *ℤ pos n) +ℤ (int_min c.args.span.lo (pos 0) *ℤ pos (c.args.count.all - n))) certain
    ∙ ap (λ n. (c.args.span.lo *ℤ pos (certain_count ps)) +ℤ (int_min c.args.span.lo (pos 0) *ℤ pos (n - certain_count ps))) all ∙ sym (low_sum span ps have) in
    let highs : c.share_sum-2.result ≡ _ = c.share_sum-2.ensures ∙ ap (λ z. (z *ℤ pos rows) +ℤ (to_z w64 (of_z w64 c.max.result) *ℤ pos others)) high
    ∙ ap (λ z. (c.args.span.hi *ℤ pos rows) +ℤ (z *ℤ pos others)) greatest ∙ ap (λ n. (c.args.span.hi *ℤ pos n) +ℤ (int_max c.args.span.hi (pos 0) *ℤ pos (c.args.count.all - n))) certain
    ∙ ap (λ n. (c.args.span.hi *ℤ pos (certain_count ps)) +ℤ (int_max c.args.span.hi (pos 0) *ℤ pos (n - certain_count ps))) all ∙ sym (high_sum span ps have) in
    let kept : c.if-count-eq0.ended ≡ cond (rows == 0) c.args.count.all 0 =
    elim c.if-count-eq0.branch [
      | then-count-eq0 w ↦ w.ended-is ∙ ap (λ (b : Bool). cond b c.args.count.all 0) (sym (eq-eqb rows 0 w.if-count-eq0.true))
      | else-count-eq0 w ↦ w.ended-is ∙ ap (λ (b : Bool). cond b c.args.count.all 0) (sym (not_none rows w.if-count-eq0.false))
    ] in
    let lowest : c.end_of.result ≡ _ = c.end_of.ensures ∙ ap (end_of c.if-count-eq0.ended) low ∙ ended rows c.args.count.all c.if-count-eq0.ended c.args.span.lo kept
    ∙ ap (λ n. if n == 0 then end_of c.args.count.all c.args.span.lo else None) certain ∙ ap (λ e. if certain_count ps == 0 then e else None) (ap (λ n. end_of n c.args.span.lo) all ∙ sym (least_low span ps have)) in
    let highest : c.end_of-2.result ≡ _ = c.end_of-2.ensures ∙ ap (end_of c.if-count-eq0.ended) high ∙ ended rows c.args.count.all c.if-count-eq0.ended c.args.span.hi kept
    ∙ ap (λ n. if n == 0 then end_of c.args.count.all c.args.span.hi else None) certain ∙ ap (λ e. if certain_count ps == 0 then e else None) (ap (λ n. end_of n c.args.span.hi) all ∙ sym (greatest_high span ps have)) in
    sym (same_tally _ _ _ _ _ _ _ _ (tally_of Sum ps) certain all lowest highest (ap (λ (t : Tally). t.least_certain_high) is) (ap (λ (t : Tally). t.greatest_certain_low) is)
    (to_z-of_z w128 c.share_sum.result (record { sfits = c.share_sum.type_inv }) ∙ lows) (to_z-of_z w128 c.share_sum-2.result (record { sfits = c.share_sum-2.type_inv }) ∙ highs))
  where
    not_none : (n : ℕ) → n ≢ 0 → (n == 0) ≡ false
    not_none n other = grind (arith, nat_tests)
