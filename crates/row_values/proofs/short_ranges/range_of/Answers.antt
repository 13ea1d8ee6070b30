use Rattle.std.proofs.Common.{◌≡◌, ◌+◌, ◌*◌, ◌^◌, ◌≤◌, ◌-◌, min, nat_abs, pos, ◌+ℤ◌, ◌-ℤ◌, ap, ◌∙◌, arith}
use Rattle.std.proofs.lemmas.Int.{ints}
use Rattle.row_values.proofs.ShortNumbers.{counted_from}
use Rattle.row_values.proofs.short_ranges.range_of.Goals as goal

pub returns-clause-lo : goal.returns-clause-lo
returns-clause-lo c =
    let greatest : c.abs_diff.result ≡ nat_abs (c.args.top -ℤ c.args.base) = omega (arith, ints) in
    let first = c.numbers_of-first.result.0 in
    let most : first ≤ nat_abs (c.args.top -ℤ c.args.base) = omega (arith, c.numbers_of-first.ensures.first, c.requires.digits) in
    counted_from c.args.base c.args.top first c.from.result c.from-2.result (omega (arith, ints)) (omega (arith, ints)) c.requires.ordered most c.ranges.base c.ranges.top ∙ ap (λ n. c.args.base +ℤ pos n) c.numbers_of-first.ensures.first

pub returns-clause-hi : goal.returns-clause-hi
returns-clause-hi c =
    let greatest : c.abs_diff.result ≡ nat_abs (c.args.top -ℤ c.args.base) = omega (arith, ints) in
    let last = c.numbers_of-first.result.1 in
    let most : last ≤ nat_abs (c.args.top -ℤ c.args.base) = omega (arith, c.numbers_of-first.ensures.last, greatest) in
    counted_from c.args.base c.args.top last c.from-3.result c.from-4.result (omega (arith, ints)) (omega (arith, ints)) c.requires.ordered most c.ranges.base c.ranges.top
    ∙ ap (λ n. c.args.base +ℤ pos n) (c.numbers_of-first.ensures.last ∙ ap (min (c.args.digits * 2 ^ c.args.unread + (2 ^ c.args.unread - 1))) greatest)

pub invariant_of-result : goal.invariant_of-result
invariant_of-result c =
    let greatest : c.abs_diff.result ≡ nat_abs (c.args.top -ℤ c.args.base) = omega (arith, ints) in
    let first = c.numbers_of-first.result.0 in
    let last = c.numbers_of-first.result.1 in
    let order : first ≤ last = omega (arith, c.numbers_of-first.ensures.first, c.numbers_of-first.ensures.last, greatest, c.requires.digits) in
    let most : last ≤ nat_abs (c.args.top -ℤ c.args.base) = omega (arith, c.numbers_of-first.ensures.last, greatest) in
    let least : first ≤ nat_abs (c.args.top -ℤ c.args.base) = omega (arith, order, most) in
    let low = counted_from c.args.base c.args.top first c.from.result c.from-2.result (omega (arith, ints)) (omega (arith, ints)) c.requires.ordered least c.ranges.base c.ranges.top in
    let high = counted_from c.args.base c.args.top last c.from-3.result c.from-4.result (omega (arith, ints)) (omega (arith, ints)) c.requires.ordered most c.ranges.base c.ranges.top in
    record { ordered = omega (arith, ints, low, high, order) }
