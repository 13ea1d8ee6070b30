use Rattle.std.proofs.Common.{Some, ap, sym, ◌∙◌}
use Rattle.report_text.proofs.RowTexts.{row_is, standing_lacks}
use Rattle.report_text.specs.Intervals.{key_interval}
use Rattle.report_text.specs.Rows.{name_text}
use Rattle.report_text.specs.declared.rows.RowLine.{RowLine}
use Rattle.report_text.proofs.rows.read_loosely.Goals as goal

pub returns-in_ok-read_interval-in-Some-clause-read : goal.returns-in_ok-read_interval-in-Some-clause-read
returns-in_ok-read_interval-in-Some-clause-read c = λ row h is e.
    (let parts = c.in-Some.ensures (name_text row.name) (key_interval row.key) (standing_lacks c.args.certain row.key h.key) (rw is at e) in
    c.row_of.ensures.is row.name row.key (c.in_ok-name-in-Some.ensures.read row.name h.name (sym parts.0))
    (c.in_ok-read_interval-in-Some.ensures.read row.key h.key (sym parts.1))
    ∙ ap (λ (r : RowLine). Some r) (row_is row c.args.certain is))

pub returns-in-None-clause-read : goal.returns-in-None-clause-read
returns-in-None-clause-read c = λ row h is e.
    absurd (c.in-None.ensures (name_text row.name) (key_interval row.key) (standing_lacks c.args.certain row.key h.key) (rw is at e))
