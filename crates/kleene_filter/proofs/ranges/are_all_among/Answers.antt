use Rattle.std.proofs.Common.{◌≡◌, pos, ◌+ℤ◌, true, false, sym, ◌∙◌, arith, to_z, of_z}
use Rattle.std.proofs.lemmas.Int.{ints}
use Rattle.std.specs.Int.{w128}
use Rattle.interval_calc.specs.Intervals.{interval_of}
use Rattle.query_model.specs.Meaning.{among}
use Rattle.kleene_filter.proofs.TestsByEnds.{all_up_to, not_all, passed_further}
use Rattle.kleene_filter.proofs.ranges.are_all_among.Goals as goal

pub returns-then-number-range : goal.returns-then-number-range
returns-then-number-range c =
    let n = to_z w128 c.numbers.number-bits in
    let here : among c.args.values.now n ≡ true = sym c.is_among.ensures ∙ c.numbers-test.true in
    let last : n ≡ c.args.range.hi = omega (arith, ints) in
    sym (all_up_to c.args.values.now (interval_of c.args.range) n c.args.range.ordered c.numbers.invariant.passed here last)

pub numbers-preserved : goal.numbers-preserved
numbers-preserved c =
    let n = to_z w128 c.numbers.number-bits in
    let here : among c.args.values.now n ≡ true = sym c.is_among.ensures ∙ c.numbers-test.true in
    record {
      above = omega (arith, ints);
      below = omega (arith, ints);
      passed = passed_further c.args.values.now c.args.range.lo n (to_z w128 (of_z w128 (n +ℤ pos 1))) (omega (arith, ints)) c.numbers.invariant.passed here;
    }

pub returns : goal.returns
returns c =
    let n = to_z w128 c.numbers.number-bits in
    let here : among c.args.values.now n ≡ false = sym c.is_among.ensures ∙ c.numbers-test.false in
    sym (not_all c.args.values.now (interval_of c.args.range) n c.args.range.ordered c.numbers.invariant.above c.numbers.invariant.below here)
