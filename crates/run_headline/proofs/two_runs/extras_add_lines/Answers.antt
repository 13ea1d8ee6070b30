-- Lines that are wanted besides are added.
use Rattle.run_headline.proofs.TwoRuns.{extras_add}
use Rattle.run_headline.proofs.two_runs.extras_add_lines.Goals as goal

pub returns : goal.returns
returns c =
    extras_add c.answers_are_one.ensures c.typed_queries_are_valid.ensures c.rounds_are_one.ensures c.one_command.ensures.commands c.steps_are_exact.ensures
