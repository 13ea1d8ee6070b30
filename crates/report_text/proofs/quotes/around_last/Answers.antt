use Rattle.std.proofs.Common.{sym, ap, length, false, ◌∙◌}
use Rattle.std.proofs.lemmas.List.{append_cancel_left, take_rest}
use Rattle.std.proofs.lemmas.Option.{none-some}
use Rattle.report_text.proofs.LastOutside.{before_last, behind_last, last_found, none_last}
use Rattle.report_text.specs.Quotes.{last_outside}
use Rattle.report_text.proofs.quotes.around_last.Goals as goal

pub returns-in_err-place-clause-parted : goal.returns-in_err-place-clause-parted
returns-in_err-place-clause-parted c = λ front rest h e.
    absurd (none-some (length front) (c.in_err-place.ensures.place ∙ ap (last_outside c.args.word.now) (sym e) ∙ last_found c.args.word.now front rest c.requires h))

pub returns-in_err-rest-clause-parted : goal.returns-in_err-rest-clause-parted
returns-in_err-rest-clause-parted c = λ front rest h e.
    absurd (c.in_err-rest.ensures rest (take_rest c.args.text.now c.in_ok-place.place
    ∙ behind_last c.in_ok-place.place c.args.word.now c.args.text.now front rest c.requires h e c.in_ok-place.ensures.place))

pub returns-clause-parted : goal.returns-clause-parted
returns-clause-parted c = λ front rest h e. (
  before_last c.in_ok-place.place c.args.word.now c.args.text.now front rest c.requires h e c.in_ok-place.ensures.place,
  append_cancel_left c.args.word.now c.in_ok-rest.rest.now rest
      (sym c.in_ok-rest.ensures ∙ take_rest c.args.text.now c.in_ok-place.place
      ∙ behind_last c.in_ok-place.place c.args.word.now c.args.text.now front rest c.requires h e c.in_ok-place.ensures.place),
)

pub returns-clause-whole : goal.returns-clause-whole
returns-clause-whole c = λ h.
    absurd (none-some c.in_ok-place.place (sym (c.in_ok-place.ensures.place ∙ none_last c.args.word.now c.args.text.now false h)))
