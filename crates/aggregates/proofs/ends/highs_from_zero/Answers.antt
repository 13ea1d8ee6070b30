use Rattle.std.proofs.Common.{◌≤◌, ◌-◌, ◌^◌, ◌∙◌, arith}
use Rattle.std.proofs.Math.Nat.{pow-le-pow_right}
use Rattle.daq_table.specs.Tables.{planes}
use Rattle.aggregates.proofs.EndSigns.{all_highs_from_zero}
use Rattle.aggregates.proofs.EndSums.{Counts}
use Rattle.aggregates.proofs.ends.highs_from_zero.Goals as goal

pub returns-then-unread-gt0 : goal.returns-then-unread-gt0
returns-then-unread-gt0 c =
    let column = c.args.known.now in
    let counts : Counts column c.args.within.now = record { sound = c.number_planes-planes.ensures.sound; rows = c.requires.within; values = c.requires.values } in
    let some : 1 ≤ planes column.ends - column.known.read = omega (arith, c.unread.ensures, c.if-unread-gt0.true) in
    let two : 2 ≤ 2 ^ (planes column.ends - column.known.read) = pow-le-pow_right (omega arith) some in
    c.copy_from.ensures ∙ all_highs_from_zero column c.args.within.now counts c.requires.base c.requires.top two
