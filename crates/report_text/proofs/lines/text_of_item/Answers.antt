use Rattle.std.proofs.Common.{codes, decimal}
use Rattle.report_text.proofs.EndPlaces.{behind_both}
use Rattle.report_text.proofs.lines.text_of_item.Goals as goal

pub returns : goal.returns
returns c = behind_both c.behind_space.result c.args.line.now (decimal c.args.number) (codes " ") c.in_ok-rest.rest.now c.in_ok-rest.ensures c.behind_space.ensures
