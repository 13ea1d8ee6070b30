use Rattle.std.proofs.Common.{arith}
use Rattle.report_parts.proofs.FromRounds.{all_here, set_passed}
use Rattle.report_parts.proofs.parts.pass_all.Goals as goal

pub loop-place-init : goal.loop-place-init
loop-place-init c = all_here c.args.round c.args.parts.now

pub loop-place-preserved : goal.loop-place-preserved
loop-place-preserved c =
    set_passed c.args.round c.args.parts.now c.loop-place.parts c.loop-place.place c.pass.new.self c.index-parts-place.result c.loop-place.invariant
    (omega (arith, c.loop-place-test.true, c.loop-place.auto.parts)) c.pass.ensures
