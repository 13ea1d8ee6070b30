use Rattle.report_text.proofs.RoundLines.{named_behind}
use Rattle.report_text.proofs.lines.is_round_line.Goals as goal

pub returns-in-Some-clause-yes : goal.returns-in-Some-clause-yes
returns-in-Some-clause-yes c = λ h. c.is_named.ensures.yes (named_behind c.args.round c.args.line.now c.in-Some.rest.now c.in-Some.ensures h)
