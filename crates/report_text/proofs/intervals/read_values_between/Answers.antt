use Rattle.std.proofs.Common.{◌≡◌, Some, codes, sym, ap, ◌∙◌}
use Rattle.std.proofs.lemmas.Result.{IfOk-weaker}
use Rattle.std.proofs.lemmas.Slice.Eq.{bytes_eq-Decides}
use Rattle.report_text.proofs.KeyIntervals.{dash_only, none_between, texts_between}
use Rattle.report_text.proofs.ShownTexts.{other_text}
use Rattle.report_text.specs.declared.keys.ShownEnds.{ShownEnds}
use Rattle.report_text.proofs.intervals.read_values_between.Goals as goal

pub returns-then-eq-clause-read : goal.returns-then-eq-clause-read
returns-then-eq-clause-read c = λ ends h e.
    (let text : c.args.text.now ≡ codes "-" = (bytes_eq-Decides c.args.text.now c.as_slice.result.now).0 (sym c.if-eq.ensures) ∙ c.as_slice.ensures in
    ap (λ (x : ShownEnds). Some x) (dash_only ends h (e ∙ text)))

pub returns-in-Some-clause-read : goal.returns-in-Some-clause-read
returns-in-Some-clause-read c =
    IfOk-weaker c.read_between.result _ _
    (λ read reads ends h e. reads ends h (texts_between c.args.text.now c.in-Some.low.now c.in-Some.high.now c.in-Some.ensures
    (λ text. other_text c.args.text.now c.as_slice.result.now c.if-eq.ensures (text ∙ sym c.as_slice.ensures)) ends h e))
    c.read_between.ensures.read

pub returns-in-None-clause-read : goal.returns-in-None-clause-read
returns-in-None-clause-read c = λ ends h e.
    absurd (none_between c.args.text.now c.in-None.ensures
    (λ text. other_text c.args.text.now c.as_slice.result.now c.if-eq.ensures (text ∙ sym c.as_slice.ensures)) ends h e)
