use Rattle.std.proofs.Common.{◌≡◌, Option, Some, codes, decimal, ◌∙◌}
use Rattle.std.proofs.lemmas.List.{append_cancel_left}
use Rattle.std.proofs.lemmas.Result.{IfOk-weaker}
use Rattle.report_text.specs.TextAnswers.{IsTextAnswer, text_item_line, text_of}
use Rattle.report_text.specs.declared.text_answers.TextAnswer.{TextAnswer}
use Rattle.report_text.proofs.text_answers.read_text_item.Goals as goal

pub returns-in-Some-clause-read : goal.returns-in-Some-clause-read
returns-in-Some-clause-read c =
    IfOk-weaker c.read_text_answer.result
    (λ (read : Option TextAnswer). (answer : TextAnswer) → IsTextAnswer answer → text_of answer ≡ c.in-Some.text.now → read ≡ Some answer)
    (λ (read : Option TextAnswer). (answer : TextAnswer) → IsTextAnswer answer → text_item_line c.args.number answer ≡ c.args.line.now → read ≡ Some answer)
    (λ read found answer h e. found answer h
    (append_cancel_left (codes " ") (text_of answer) c.in-Some.text.now
    (append_cancel_left (decimal c.args.number) _ _ (e ∙ c.in-Some.ensures))))
    c.read_text_answer.ensures.read
