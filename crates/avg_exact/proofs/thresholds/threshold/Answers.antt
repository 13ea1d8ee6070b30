use Rattle.std.proofs.Common.{arith, ◌≡◌, ◌-◌, ◌/◌, ◌^◌, subst, sym, ap, ◌∙◌, None, Some, to_z, of_z}
use Rattle.std.specs.Int.{w128}
use Rattle.std.proofs.lemmas.Int.{ints}
use Rattle.daq_table.specs.declared.head.Ends.{Ends}
use Rattle.daq_table.specs.Tables.{planes}
use Rattle.avg_exact.specs.Blocks.{IsDistance, IsThreshold}
use Rattle.avg_exact.proofs.NumberReach.{threshold_none, threshold_some}
use Rattle.avg_exact.proofs.thresholds.threshold.Goals as goal

pub returns-in-None : goal.returns-in-None
returns-in-None c =
    let floor : to_z w128 (of_z w128 c.floor_of.result) ≡ c.floor_of.result = omega (arith, ints) in
    threshold_none c.args.known.now c.declared-ends.ensures.known c.args.end c.args.over c.floor_of.result (omega (arith, c.args.over.divisible)) c.floor_of.ensures
    (subst (λ (e : Ends). IsDistance c.args.end e.base e.top c.floor_of.result None) c.declared-ends.ensures.ends
    (subst (λ z. IsDistance c.args.end c.declared-ends.result.base c.declared-ends.result.top z None) floor c.in-None.ensures))

pub returns-in-Some : goal.returns-in-Some
returns-in-Some c =
    let column = c.args.known.now in
    let floor : to_z w128 (of_z w128 c.floor_of.result) ≡ c.floor_of.result = omega (arith, ints) in
    let d : c.unread-unread.result ≡ planes column.ends - column.known.read = omega (arith, c.unread-unread.ensures) in
    let is : c.without_digits.result ≡ c.in-Some.distance / 2 ^ (planes column.ends - column.known.read) = c.without_digits.ensures ∙ ap (λ k. c.in-Some.distance / 2 ^ k) d in
    subst (λ t. IsThreshold column c.args.end c.args.over (Some t)) (sym is)
    (threshold_some column c.declared-ends.ensures.known c.args.end c.args.over c.floor_of.result c.in-Some.distance (omega (arith, c.args.over.divisible)) c.floor_of.ensures
    (subst (λ (e : Ends). IsDistance c.args.end e.base e.top c.floor_of.result (Some c.in-Some.distance)) c.declared-ends.ensures.ends
    (subst (λ z. IsDistance c.args.end c.declared-ends.result.base c.declared-ends.result.top z (Some c.in-Some.distance)) floor c.in-Some.ensures)))
