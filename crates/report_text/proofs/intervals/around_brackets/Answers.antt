use Rattle.report_text.proofs.KeyIntervals.{brackets_absent, brackets_found}
use Rattle.report_text.proofs.intervals.around_brackets.Goals as goal

pub returns-in-Some : goal.returns-in-Some
returns-in-Some c = λ equal low high h none same e.
    c.around_comma.ensures low high h (brackets_found equal low high c.args.text.now c.in-Some.inner.now c.in-Some.ensures none e)

pub returns-in-None : goal.returns-in-None
returns-in-None c = λ equal low high h none same e. brackets_absent equal low high c.args.text.now c.in-None.ensures same e
