use Rattle.std.proofs.Common.{◌<◌, length, arith, ◌∙◌}
use Rattle.report_parts.proofs.GroupsOver.{answers_go_on}
use Rattle.report_parts.proofs.groups.push_answers.Goals as goal

pub loop-place-preserved : goal.loop-place-preserved
loop-place-preserved c =
    let below : c.loop-place.place < length c.args.answers.now = omega (arith, c.loop-place-test.true) in
    answers_go_on c.loop-place.text.items c.push_answer.new.text.items c.args.texts.now c.in_ok-told.told c.args.answers.now c.loop-place.place _ below
    c.in_ok-told.ensures c.in_ok-push_answer.ensures
    ∙ c.loop-place.invariant
