use Rattle.std.proofs.Common.{◌≡◌, to_z, of_z, sym, ◌∙◌, arith}
use Rattle.std.specs.Int.{w128}
use Rattle.std.proofs.lemmas.Int.{ints}
use Rattle.aggregates.specs.Widening.{widening_rows}
use Rattle.aggregates.specs.Selections.{end_at}
use Rattle.aggregates.proofs.MaskSums.{total_of_none}
use Rattle.aggregates.proofs.Widening.{never_any, widening_long, widening_values}
use Rattle.aggregates.proofs.others.sum_others.Goals as goal

pub returns-then-not-can_widen-clause-rows : goal.returns-then-not-can_widen-clause-rows
returns-then-not-can_widen-clause-rows c =
    sym (never_any c.args.end c.args.known.now c.args.may.now c.args.must.now (c.requires.must ∙ sym c.requires.may) (c.can_widen.ensures.no c.if-not-can_widen.true))

pub returns-then-not-can_widen-clause-sum : goal.returns-then-not-can_widen-clause-sum
returns-then-not-can_widen-clause-sum c =
    let column = c.args.known.now in
    let rows = widening_rows c.args.end column c.args.may.now c.args.must.now in
    sym (total_of_none (end_at c.args.end column) rows (never_any c.args.end column c.args.may.now c.args.must.now (c.requires.must ∙ sym c.requires.may) (c.can_widen.ensures.no c.if-not-can_widen.true)))

pub add_others-sums-requires-clause-some : goal.add_others-sums-requires-clause-some
add_others-sums-requires-clause-some c = c.can_widen.ensures.yes c.if-not-can_widen.false

pub end_of_sums-requires : goal.end_of_sums-requires
end_of_sums-requires c =
    let column = c.args.known.now in
    let same = c.requires.must ∙ sym c.requires.may in
    record {
      sums = record {
        mask = widening_rows c.args.end column c.args.may.now c.args.must.now;
        rows = widening_long c.args.end column c.args.may.now c.args.must.now same ∙ c.requires.may;
        values = widening_values c.args.end column c.args.may.now c.args.must.now same c.requires.values;
        are = c.add_others-sums.ensures;
      };
    }

pub returns-clause-sum : goal.returns-clause-sum
returns-clause-sum c =
    let column = c.args.known.now in
    let same = c.requires.must ∙ sym c.requires.may in
    let whole : to_z w128 (of_z w128 c.end_of_sums.result) ≡ c.end_of_sums.result = omega (arith, ints, c.end_of_sums.ensures.few) in
    whole ∙ c.end_of_sums.ensures.sum (widening_rows c.args.end column c.args.may.now c.args.must.now) (widening_long c.args.end column c.args.may.now c.args.must.now same ∙ c.requires.may)
    (widening_values c.args.end column c.args.may.now c.args.must.now same c.requires.values) c.add_others-sums.ensures
