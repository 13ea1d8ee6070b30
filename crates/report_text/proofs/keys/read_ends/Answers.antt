use Rattle.std.proofs.Common.{◌≡◌, Some, codes, sym, ap, ◌∙◌}
use Rattle.std.proofs.lemmas.Result.{IfOk-weaker}
use Rattle.std.proofs.lemmas.Slice.Eq.{bytes_eq-Decides}
use Rattle.report_text.proofs.OneGroup.{ends_one}
use Rattle.report_text.proofs.ReadKeys.{have_texts}
use Rattle.report_text.proofs.ShownTexts.{other_text}
use Rattle.report_text.specs.declared.keys.ShownEnds.{ShownEnds}
use Rattle.report_text.specs.declared.keys.ShownEnds.TheVariants.{NoText}
use Rattle.report_text.proofs.keys.read_ends.Goals as goal

pub returns-then-eq-clause-read : goal.returns-then-eq-clause-read
returns-then-eq-clause-read c = λ ends h e.
    (let text : c.args.text.now ≡ codes "-" = (bytes_eq-Decides c.args.text.now c.as_slice.result.now).0 (sym c.if-eq.ensures) ∙ c.as_slice.ensures in
    ap (λ (x : ShownEnds). Some x) (ends_one NoText ends tt h (sym (e ∙ text))))

pub returns-clause-read : goal.returns-clause-read
returns-clause-read c =
    IfOk-weaker c.read_between.result _ _
    (λ read reads ends h e. reads ends h (have_texts c.args.text.now c.around_dots.result.0.now c.around_dots.result.1.now c.around_dots.ensures
    (λ text. other_text c.args.text.now c.as_slice.result.now c.if-eq.ensures (text ∙ sym c.as_slice.ensures)) ends h e))
    c.read_between.ensures.read
