use Rattle.std.proofs.Common.{sym, ◌∙◌}
use Rattle.std.proofs.lemmas.List.{append_cancel_left}
use Rattle.report_text.specs.Answers.{answer_text}
use Rattle.report_text.specs.Extras.{extra_word}
use Rattle.report_text.proofs.extras.read_extra_text.Goals as goal

pub returns-in_err-rest-clause-read : goal.returns-in_err-rest-clause-read
returns-in_err-rest-clause-read c = λ answer h e. absurd (c.in_err-rest.ensures (answer_text answer) (sym e))

pub returns-clause-read : goal.returns-clause-read
returns-clause-read c = λ answer h e.
    c.read_told_again.ensures.read answer h
    (append_cancel_left (extra_word c.args.kind) (answer_text answer) c.in_ok-rest.rest.now (e ∙ c.in_ok-rest.ensures))
