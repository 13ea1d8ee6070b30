use Rattle.std.proofs.Common.{codes, sym, ◌++◌, ◌∙◌}
use Rattle.std.proofs.lemmas.List.{append_cancel_right}
use Rattle.report_text.proofs.RowTexts.{behind_row}
use Rattle.report_text.specs.Rows.{standing_word}
use Rattle.report_text.proofs.rows.around_standing.Goals as goal

pub returns-in_err-front : goal.returns-in_err-front
returns-in_err-front c = λ name key h e.
    absurd (c.in_err-front.ensures (name ++ codes " ") key h (behind_row name key (standing_word c.args.certain) c.args.line.now c.in_ok-rest.rest.now e c.in_ok-rest.ensures))

pub returns-in_err-name : goal.returns-in_err-name
returns-in_err-name c = λ name key h e.
    (let parts = c.in_ok-front.ensures (name ++ codes " ") key h (behind_row name key (standing_word c.args.certain) c.args.line.now c.in_ok-rest.rest.now e c.in_ok-rest.ensures) in
    absurd (c.in_err-name.ensures name parts.0))

pub returns : goal.returns
returns c = λ name key h e.
    (let parts = c.in_ok-front.ensures (name ++ codes " ") key h (behind_row name key (standing_word c.args.certain) c.args.line.now c.in_ok-rest.rest.now e c.in_ok-rest.ensures) in
    (append_cancel_right c.in_ok-name.name.now name (codes " ") (sym c.in_ok-name.ensures ∙ parts.0), parts.1))
