use Rattle.std.proofs.Common.{codes, decimal, sym, ◌∙◌}
use Rattle.std.proofs.lemmas.List.{append_cancel_left}
use Rattle.report_text.proofs.lines.read_parts.Goals as goal

pub returns-in_err-number-clause-read : goal.returns-in_err-number-clause-read
returns-in_err-number-clause-read c = λ parts few e. absurd (c.in_err-number.ensures (decimal parts) (sym e))

pub returns-clause-read : goal.returns-clause-read
returns-clause-read c = λ parts few e.
    c.read_count.ensures.read parts few (append_cancel_left (codes "parts ") (decimal parts) c.in_ok-number.number.now (e ∙ c.in_ok-number.ensures))
