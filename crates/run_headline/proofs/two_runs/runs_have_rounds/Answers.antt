-- A run that was done has its rounds.
use Rattle.run_headline.proofs.TwoRuns.{have_rounds}
use Rattle.run_headline.proofs.two_runs.runs_have_rounds.Goals as goal

pub returns : goal.returns
returns c = have_rounds c.one_command.ensures.commands c.steps_are_exact.ensures
