use Rattle.std.proofs.Common.{◌≡◌, ◌<◌, ◌≤◌, ◌-◌, ◌^◌, nat_lt, ℕ, true, arith}
use Rattle.std.proofs.Math.Nat.{pow-le-pow_right}
use Rattle.std.proofs.lemmas.Bool.Decides.{nat_tests}
use Rattle.std.proofs.lemmas.Int.{ints}
use Rattle.daq_table.specs.Tables.{planes}
use Rattle.aggregates.proofs.EndSigns.{all_highs_above, all_highs_from_zero}
use Rattle.aggregates.proofs.EndSums.{Counts}
use Rattle.aggregates.proofs.others.all_positive.Goals as goal

positive : (n : ℕ) → nat_lt 0 n ≡ true → 0 < n
positive n e = grind (arith, nat_tests)

pub returns-then-base-eq0-clause-all : goal.returns-then-base-eq0-clause-all
returns-then-base-eq0-clause-all c = λ yes within long values.
    let column = c.args.known.now in
    let counts : Counts column within = record { sound = c.number_planes-planes.ensures.sound; rows = long; values = values } in
    let some : 1 ≤ planes column.ends - column.known.read = omega (arith, c.unread.ensures, positive c.unread.result yes) in
    let two : 2 ≤ 2 ^ (planes column.ends - column.known.read) = pow-le-pow_right (omega arith) some in
    all_highs_from_zero column within counts (omega (arith, ints, c.base-base.ensures, c.if-base-eq0.true)) c.requires.top two

pub returns-else-base-eq0-clause-all : goal.returns-else-base-eq0-clause-all
returns-else-base-eq0-clause-all c = λ yes within long values.
    let column = c.args.known.now in
    let counts : Counts column within = record { sound = c.number_planes-planes.ensures.sound; rows = long; values = values } in
    all_highs_above column within (omega (arith, ints, c.base-base.ensures, yes))
