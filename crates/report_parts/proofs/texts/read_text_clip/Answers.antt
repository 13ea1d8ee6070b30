use Rattle.std.proofs.Common.{◌≡◌, Option, Some, codes, decimal, ◌∙◌}
use Rattle.std.proofs.lemmas.List.{append_cancel_left}
use Rattle.std.proofs.lemmas.Result.{IfOk-weaker}
use Rattle.report_text.specs.TextAnswers.{IsTextAnswer, text_of}
use Rattle.report_text.specs.declared.text_answers.TextAnswer.{TextAnswer}
use Rattle.report_parts.specs.Texts.{text_clip_line}
use Rattle.report_parts.proofs.texts.read_text_clip.Goals as goal

pub returns-in-Some-clause-read : goal.returns-in-Some-clause-read
returns-in-Some-clause-read c =
    IfOk-weaker c.read_text_answer.result
    (λ (read : Option TextAnswer). (clip : TextAnswer) → IsTextAnswer clip → text_of clip ≡ c.in-Some.text.now → read ≡ Some clip)
    (λ (read : Option TextAnswer). (clip : TextAnswer) → IsTextAnswer clip → text_clip_line c.args.number clip ≡ c.args.line.now → read ≡ Some clip)
    (λ read found clip h e. found clip h
    (append_cancel_left (codes "clip ") (text_of clip) c.in-Some.text.now
    (append_cancel_left (codes " ") _ _ (append_cancel_left (decimal c.args.number) _ _ (e ∙ c.in-Some.ensures)))))
    c.read_text_answer.ensures.read
