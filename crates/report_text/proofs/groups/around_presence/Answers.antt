use Rattle.std.proofs.Common.{true, false, sym, ◌∙◌}
use Rattle.report_text.proofs.OneGroup.{words_one}
use Rattle.report_text.proofs.groups.around_presence.Goals as goal

pub returns-in-Some : goal.returns-in-Some
returns-in-Some c = λ keys present e.
    (let same = words_one true present c.in-Some.keys.now keys (sym c.in-Some.ensures ∙ sym e) in (same.keys, same.present))

pub returns-in_ok-before-in-None : goal.returns-in_ok-before-in-None
returns-in_ok-before-in-None c = λ keys present e.
    (let same = words_one false present c.in_ok-before-in-None.field-0.now keys (sym c.in_ok-before-in-None.ensures ∙ sym e) in (same.keys, same.present))
