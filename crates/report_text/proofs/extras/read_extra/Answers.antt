use Rattle.std.proofs.Common.{codes, decimal, sym, ◌∙◌}
use Rattle.std.proofs.lemmas.List.{append_cancel_left}
use Rattle.report_text.specs.Extras.{extra_text}
use Rattle.report_text.proofs.extras.read_extra.Goals as goal

pub returns-in_err-text-clause-read : goal.returns-in_err-text-clause-read
returns-in_err-text-clause-read c = λ answer h e. absurd (c.in_err-text.ensures (extra_text c.args.kind answer) (sym e))

pub returns-clause-read : goal.returns-clause-read
returns-clause-read c = λ answer h e.
    c.read_extra_text.ensures.read answer h
    (append_cancel_left (codes " ") (extra_text c.args.kind answer) c.in_ok-text.text.now
    (append_cancel_left (decimal c.args.number) _ _ (e ∙ c.in_ok-text.ensures)))
