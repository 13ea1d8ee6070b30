use Rattle.std.proofs.Common.{◌≡◌, Some, codes, sym, ap, ◌∙◌}
use Rattle.std.proofs.lemmas.Slice.Eq.{bytes_eq-Decides}
use Rattle.report_text.proofs.KeyIntervals.{null_behind, null_nowhere, null_only}
use Rattle.report_text.proofs.ShownTexts.{other_text}
use Rattle.report_text.specs.declared.keys.ShownSpan.{ShownSpan}
use Rattle.report_text.proofs.intervals.read_interval.Goals as goal

pub returns-then-eq-clause-read : goal.returns-then-eq-clause-read
returns-then-eq-clause-read c = λ span h e.
    (let text : c.args.text.now ≡ codes "null" = (bytes_eq-Decides c.args.text.now c.as_slice.result.now).0 (sym c.if-eq.ensures) ∙ c.as_slice.ensures in
    ap (λ (s : ShownSpan). Some s) (null_only span.null span.ends h (e ∙ text)))

pub returns-in_ok-read_values_between-in-Some-clause-read : goal.returns-in_ok-read_values_between-in-Some-clause-read
returns-in_ok-read_values_between-in-Some-clause-read c = λ span h e.
    null_behind span.null span.ends c.args.text.now c.in-Some.ends.now c.with_null.result h e
    (λ text. other_text c.args.text.now c.as_slice.result.now c.if-eq.ensures (text ∙ sym c.as_slice.ensures)) c.in-Some.ensures
    (λ ends shown is. c.with_null.ensures.is ends (c.in_ok-read_values_between-in-Some.ensures.read ends shown is))

pub returns-in_ok-read_values_between-in-None-clause-read : goal.returns-in_ok-read_values_between-in-None-clause-read
returns-in_ok-read_values_between-in-None-clause-read c = λ span h e.
    null_nowhere span.null span.ends c.args.text.now c.with_null-in-None.result h e
    (λ text. other_text c.args.text.now c.as_slice.result.now c.if-eq.ensures (text ∙ sym c.as_slice.ensures)) c.in-None.ensures
    (λ ends shown is. c.with_null-in-None.ensures.is ends (c.in_ok-read_values_between-in-None.ensures.read ends shown is))
