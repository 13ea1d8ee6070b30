use Rattle.std.proofs.Common.{◌<◌, length, slice_index, arith}
use Rattle.std.proofs.lemmas.List.{get_or_default}
use Rattle.multi_session.proofs.Handing.{handed_more}
use Rattle.multi_session.proofs.members.hand.Goals as goal

pub loop-number-preserved : goal.loop-number-preserved
loop-number-preserved c =
    let places = c.args.columns.now.places.items in
    let k = c.loop-number.number in
    let now = c.loop-number.members in
    let m = c.index-members-number.result in
    let inside : k < length c.args.members.now = omega (arith, c.loop-number-test.true, c.loop-number.auto.members, c.loop-number.invariant.wide) in
    let here : k < length now = omega (arith, inside, c.loop-number.invariant.wide) in
    handed_more c.args.near c.args.step (slice_index places c.args.column) places c.args.plane.now c.args.columns.now.known c.args.members.now now k _ c.follow.new.self
    c.loop-number.invariant inside (λ d. get_or_default now k d m here) c.follow.ensures
