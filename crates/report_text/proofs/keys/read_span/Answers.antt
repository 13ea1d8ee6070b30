use Rattle.std.proofs.Common.{◌≡◌, Some, None, true, codes, sym, ap, ◌∙◌}
use Rattle.std.proofs.lemmas.Option.{none-some}
use Rattle.std.proofs.lemmas.Slice.Eq.{bytes_eq-Decides}
use Rattle.report_text.proofs.OneGroup.{span_one}
use Rattle.report_text.proofs.ReadKeys.{null_absent, null_found}
use Rattle.report_text.proofs.ShownTexts.{other_text}
use Rattle.report_text.specs.declared.keys.ShownSpan.{ShownSpan}
use Rattle.report_text.proofs.keys.read_span.Goals as goal

pub returns-then-eq-clause-read : goal.returns-then-eq-clause-read
returns-then-eq-clause-read c = λ span h e.
    (let text : c.args.text.now ≡ codes "null" = (bytes_eq-Decides c.args.text.now c.as_slice.result.now).0 (sym c.if-eq.ensures) ∙ c.as_slice.ensures in
    ap (λ (s : ShownSpan). Some s) (span_one (record { null = true; ends = None }) span tt h (sym (e ∙ text))))

pub returns-in_ok-read_ends-in-Some-clause-read : goal.returns-in_ok-read_ends-in-Some-clause-read
returns-in_ok-read_ends-in-Some-clause-read c = λ span h e.
    null_found span.null span.ends c.args.text.now c.in-Some.ends.now c.with_null.result h e
    (λ text. other_text c.args.text.now c.as_slice.result.now c.if-eq.ensures (text ∙ sym c.as_slice.ensures))
    (λ first rest lacks parts. (c.in-Some.ensures.parted first rest lacks parts).0)
    (λ lacks. none-some _ (sym (c.in-Some.ensures.whole lacks)))
    (λ ends shown is. c.with_null.ensures.is ends (c.in_ok-read_ends-in-Some.ensures.read ends shown is))

pub returns-in_ok-read_ends-in-None-clause-read : goal.returns-in_ok-read_ends-in-None-clause-read
returns-in_ok-read_ends-in-None-clause-read c = λ span h e.
    null_absent span.null span.ends c.args.text.now c.with_null-in-None.result h e
    (λ text. other_text c.args.text.now c.as_slice.result.now c.if-eq.ensures (text ∙ sym c.as_slice.ensures))
    c.in-None.ensures.parted
    (λ ends shown is. c.with_null-in-None.ensures.is ends (c.in_ok-read_ends-in-None.ensures.read ends shown is))
