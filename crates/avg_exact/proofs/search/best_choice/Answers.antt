use Rattle.std.proofs.Common.{sym}
use Rattle.avg_exact.specs.Passes.{all_rows}
use Rattle.avg_exact.proofs.Searches.{no_greatest}
use Rattle.avg_exact.proofs.search.best_choice.Goals as goal

pub returns-in-None-clause-best : goal.returns-in-None-clause-best
returns-in-None-clause-best c = sym (no_greatest (all_rows c.args.engine.now c.args.item c.args.end) (sym c.in-None.ensures.greatest))
