use Rattle.std.proofs.Common.{◌++◌, codes, decimal, sym, subst, ◌∙◌}
use Rattle.std.proofs.lemmas.List.{append_cancel_left}
use Rattle.report_text.specs.Extras.{IsRowsText}
use Rattle.report_text.proofs.extras.is_rows_line.Goals as goal

pub returns-in-Some-clause-yes : goal.returns-in-Some-clause-yes
returns-in-Some-clause-yes c = λ h.
    c.is_rows_text.ensures.yes
    (subst IsRowsText (append_cancel_left (codes " ") h.text c.in-Some.text.now (append_cancel_left (decimal c.args.number) (codes " " ++ h.text) (codes " " ++ c.in-Some.text.now) (sym h.split ∙ c.in-Some.ensures))) h.is_text)
