use Rattle.std.proofs.Common.{◌≡◌, ◌∙◌, get_or, sym}
use Rattle.std.proofs.lemmas.Bool.{false≢true}
use Rattle.part_groups.proofs.Textless.{first_textless}
use Rattle.part_groups.proofs.answers.shown_answers.Goals as goal

pub returns-then-not-can_be_written-clause-fault : goal.returns-then-not-can_be_written-clause-fault
returns-then-not-can_be_written-clause-fault c =
    let number = c.loop-number.number in
    let item = c.index-items-number.result in
    let is : item ≡ get_or c.args.items.now number item = cc in
    first_textless number c.args.forms.now c.args.items.now c.loop-number.answers.items item c.form_at.result c.answer_in-answer.result
    c.loop-number.invariant.0 c.loop-number.invariant.1 c.loop-number.invariant.2 c.loop-number-test.true is c.form_at.ensures
    c.answer_in-answer.ensures (λ h. false≢true (sym c.if-not-can_be_written.true ∙ c.can_be_written.ensures.yes h))
