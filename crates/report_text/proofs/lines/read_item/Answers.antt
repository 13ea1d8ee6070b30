use Rattle.std.proofs.Common.{codes, decimal, sym, ◌∙◌}
use Rattle.std.proofs.lemmas.List.{append_cancel_left}
use Rattle.report_text.specs.Answers.{answer_text}
use Rattle.report_text.proofs.lines.read_item.Goals as goal

pub returns-in_err-text-clause-read : goal.returns-in_err-text-clause-read
returns-in_err-text-clause-read c = λ answer h e. absurd (c.in_err-text.ensures (answer_text answer) (sym e))

pub returns-clause-read : goal.returns-clause-read
returns-clause-read c = λ answer h e.
    c.read_answer.ensures.read answer h
    (append_cancel_left (codes " ") (answer_text answer) c.in_ok-text.text.now
    (append_cancel_left (decimal c.args.number) _ _ (e ∙ c.in_ok-text.ensures)))
