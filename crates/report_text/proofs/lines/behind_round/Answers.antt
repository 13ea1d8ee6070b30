use Rattle.std.proofs.Common.{codes, decimal}
use Rattle.report_text.proofs.EndPlaces.{behind_both}
use Rattle.report_text.proofs.lines.behind_round.Goals as goal

pub returns : goal.returns
returns c = behind_both c.behind_number.result c.args.line.now (codes "round ") (decimal c.args.round) c.in_ok-rest.rest.now c.in_ok-rest.ensures c.behind_number.ensures
