use Rattle.std.proofs.Common.{rules, ◌≡◌, ◌<◌, ◌≤◌, ◌^◌, pos, ◌-ℤ◌, nat_abs, Some, FitsSigned, subst, sym, ap, ◌∙◌, to_z, of_z}
use Rattle.std.specs.Int.{w128}
use Rattle.std.proofs.lemmas.Int.{to_z-of_z}
use Rattle.avg_exact.specs.declared.passes.Tally.{Tally}
use Rattle.avg_exact.specs.Passes.{all_rows}
use Rattle.avg_exact.proofs.Searches.{greatest_counts, greatest_ends, same_numbers}
use Rattle.avg_exact.proofs.search.take_greatest.Goals as goal

pub returns-clause-best : goal.returns-clause-best
returns-clause-best c =
    let ps = all_rows c.args.engine.now c.args.item c.args.end in
    let tally = c.count_above-tally.result in
    let fits : FitsSigned w128 tally.sum = search rules in
    let value_fits : FitsSigned w128 c.args.value = search rules in
    let below : c.just_below.result.num ≡ c.args.value -ℤ pos 1 = c.just_below.ensures.num ∙ ap (λ z. z -ℤ pos 1) (to_z-of_z w128 c.args.value value_fits) in
    same_numbers (Some (to_z w128 (of_z w128 c.args.value))) (Some c.args.value) (to_z w128 (of_z w128 tally.sum)) tally.sum tally.rows tally.taken
    (ap (λ z. Some z) (to_z-of_z w128 c.args.value value_fits)) (to_z-of_z w128 tally.sum fits)
    ∙ ap (λ (t : Tally). record { cut = Some c.args.value; sum = t.sum; rows = t.rows; taken = t.taken }) c.count_above-tally.ensures.tally
    ∙ greatest_ends c.just_below.result ps c.args.value c.requires.uncertain c.requires.greatest below c.just_below.ensures.den

pub returns-clause-turns : goal.returns-clause-turns
returns-clause-turns c =
    let ps = all_rows c.args.engine.now c.args.item c.args.end in
    let tally = c.count_above-tally.result in
    let fits : FitsSigned w128 tally.sum = search rules in
    let value_fits : FitsSigned w128 c.args.value = search rules in
    let below : c.just_below.result.num ≡ c.args.value -ℤ pos 1 = c.just_below.ensures.num ∙ ap (λ z. z -ℤ pos 1) (to_z-of_z w128 c.args.value value_fits) in
    record {
      some = subst (λ (t : Tally). 1 ≤ t.rows) (sym c.count_above-tally.ensures.tally)
          (greatest_counts c.just_below.result ps c.args.value c.requires.uncertain c.requires.greatest below c.just_below.ensures.den);
      sum = subst (λ z. nat_abs z < 2 ^ 127) (sym (to_z-of_z w128 tally.sum fits)) c.count_above-tally.ensures.small;
      cut = subst (λ z. nat_abs z < 2 ^ 127) (sym (to_z-of_z w128 c.args.value value_fits)) c.requires.small;
    }
