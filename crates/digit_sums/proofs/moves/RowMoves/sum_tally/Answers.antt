use Rattle.std.proofs.Common.{◌≡◌, pos, negsuc, ℤ, ◌+ℤ◌, ◌-ℤ◌, ◌≤ℤ◌, refl, ◌∙◌, arith, to_z, of_z}
use Rattle.std.specs.Int.{w128}
use Rattle.std.proofs.lemmas.Int.{ints}
use Rattle.digit_sums.proofs.MovedRows.{sum_moved}
use Rattle.digit_sums.proofs.moves.RowMoves.sum_tally.Goals as goal

abbrev again : ℤ → ℤ
again z = to_z w128 (of_z w128 z)

pub returns : goal.returns
returns c = λ before now was moved.
    let old = c.args.old.now in
    let least : negsuc 1267650600228229401496703205376 ≤ℤ old.high_sum = c.if-not-is_small.ensures.high refl in
    let most : old.low_sum ≤ℤ pos 1267650600228229401496703205376 = c.if-not-is_small.ensures.low refl in
    let low : again (again old.low_sum +ℤ again c.from.result) ≡ old.low_sum +ℤ pos c.args.self.raised = omega (arith, ints, most, c.from.ensures) in
    let high : old.high_sum ≡ again (again old.high_sum -ℤ again c.from-2.result) +ℤ pos c.args.self.lowered = omega (arith, ints, least, c.from-2.ensures) in
    c.without_ends.ensures
    ∙ sum_moved before now c.args.self moved.counts old c.in_ok-certain.certain c.in_ok-certain.all c.in_ok-certain.ensures.certain c.in_ok-certain.ensures.all moved _ _ was (c.if-keeps_ends.ensures refl) low high
