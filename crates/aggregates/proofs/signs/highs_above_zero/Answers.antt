use Rattle.std.proofs.Common.{◌≡◌, ◌+◌, ◌-◌, ◌%◌, ◌^◌, nat_lt, nat_abs, to_z, of_z, ap, ◌∙◌, arith}
use Rattle.std.specs.Int.{w64}
use Rattle.std.proofs.lemmas.Int.{ints}
use Rattle.daq_table.specs.Tables.{planes}
use Rattle.aggregates.proofs.EndSigns.{highs_above}
use Rattle.aggregates.proofs.EndSums.{Counts}
use Rattle.aggregates.proofs.signs.highs_above_zero.Goals as goal

pub returns : goal.returns
returns c =
    let column = c.args.known.now in
    let counts : Counts column c.args.within.now = record { sound = c.number_planes-planes.ensures.sound; rows = c.requires.within; values = c.requires.values } in
    let d : c.unread.result ≡ planes column.ends - column.known.read = omega (arith, c.unread.ensures) in
    let base : nat_abs (to_z w64 (of_z w64 c.base.result)) ≡ nat_abs column.ends.base = ap nat_abs (let e : to_z w64 (of_z w64 c.base.result) ≡ column.ends.base = omega (arith, ints, c.base.ensures) in e) in
    let part : c.ends_above-with_level.result ≡ nat_lt (nat_abs column.ends.base % 2 ^ (planes column.ends - column.known.read) + 1) (2 ^ (planes column.ends - column.known.read)) =
    c.ends_above-with_level.ensures ∙ ap (λ n. nat_lt (n % 2 ^ c.unread.result + 1) (2 ^ c.unread.result)) base ∙ ap (λ k. nat_lt (nat_abs column.ends.base % 2 ^ k + 1) (2 ^ k)) d in
    c.select.ensures ∙ highs_above column c.args.within.now c.above.result.now c.level.result.now c.ends_above-with_level.result counts c.requires.zero c.requires.top part c.above.ensures c.level.ensures
