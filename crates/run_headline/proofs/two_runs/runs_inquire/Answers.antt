-- What a run asks.
use Rattle.run_headline.proofs.TwoRuns.{inquire}
use Rattle.run_headline.proofs.two_runs.runs_inquire.Goals as goal

pub returns : goal.returns
returns c = inquire c.one_command.ensures.commands c.steps_are_exact.ensures
