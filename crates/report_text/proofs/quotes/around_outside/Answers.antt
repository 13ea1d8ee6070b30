use Rattle.std.proofs.Common.{sym, ◌∙◌}
use Rattle.std.proofs.lemmas.List.{append_cancel_left, take_rest}
use Rattle.report_text.proofs.Outside.{front_found, none_behind, rest_found}
use Rattle.report_text.proofs.quotes.around_outside.Goals as goal

pub returns-in_err-rest-clause-parted : goal.returns-in_err-rest-clause-parted
returns-in_err-rest-clause-parted c = λ front rest h e.
    absurd (c.in_err-rest.ensures rest (take_rest c.args.text.now c.place_outside-place.result ∙ rest_found c.place_outside-place.result c.args.word.now c.args.text.now front rest c.requires h e c.place_outside-place.ensures.place))

pub returns-clause-parted : goal.returns-clause-parted
returns-clause-parted c = λ front rest h e. (
  front_found c.place_outside-place.result c.args.word.now c.args.text.now front rest c.requires h e c.place_outside-place.ensures.place,
  append_cancel_left c.args.word.now c.in_ok-rest.rest.now rest
      (sym c.in_ok-rest.ensures ∙ take_rest c.args.text.now c.place_outside-place.result ∙ rest_found c.place_outside-place.result c.args.word.now c.args.text.now front rest c.requires h e c.place_outside-place.ensures.place),
)

pub returns-clause-whole : goal.returns-clause-whole
returns-clause-whole c = λ h.
    none_behind c.place_outside-place.result c.args.word.now c.args.text.now c.in_ok-rest.rest.now c.requires h c.place_outside-place.ensures.place (sym (take_rest c.args.text.now c.place_outside-place.result) ∙ c.in_ok-rest.ensures)
