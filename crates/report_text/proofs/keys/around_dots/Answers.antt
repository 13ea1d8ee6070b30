use Rattle.std.proofs.Common.{sym}
use Rattle.std.proofs.lemmas.Option.{none-some}
use Rattle.report_text.proofs.ReadKeys.{dots_absent, dots_found}
use Rattle.report_text.proofs.keys.around_dots.Goals as goal

pub returns-in-Some : goal.returns-in-Some
returns-in-Some c = λ equal low high h same e.
    dots_found equal low high c.args.text.now c.in-Some.low.now c.in-Some.high.now h e c.in-Some.ensures.parted
    (λ lacks. none-some _ (sym (c.in-Some.ensures.whole lacks)))

pub returns-in-None : goal.returns-in-None
returns-in-None c = λ equal low high h same e. dots_absent equal low high c.args.text.now h same e c.in-None.ensures.parted
