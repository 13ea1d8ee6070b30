use Rattle.std.proofs.Common.{◌≡◌, IfSome, Option, refl, subst, sym, true, ◌∙◌}
use Rattle.report_text.proofs.RowTexts.{same_row}
use Rattle.report_text.specs.Rows.{IsShownRow, row_line}
use Rattle.report_text.specs.declared.rows.RowLine.{RowLine}
use Rattle.report_text.proofs.rows.read_row.Goals as goal

pub returns-in-Some-clause-read : goal.returns-in-Some-clause-read
returns-in-Some-clause-read c = λ row h e.
    (let found = c.in_ok-row.ensures in
    let written = subst (λ (r : Option RowLine). IfSome r (λ other. IsShownRow other × (row_line other ≡ c.args.line.now))) c.in-Some.is found.written in
    let certain = subst (λ (r : Option RowLine). IfSome r (λ other. other.certain ≡ true)) c.in-Some.is found.certain in
    same_row row.certain row c.in-Some.row h written.0 refl certain (e ∙ sym written.1) (λ is. sym c.in-Some.is ∙ found.read row h is e))
