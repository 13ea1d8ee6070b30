-- Equal planes give equal reports.
use Rattle.run_headline.proofs.TwoRuns.{equal_reports}
use Rattle.run_headline.proofs.two_runs.equal_planes_give_equal_reports.Goals as goal

pub returns : goal.returns
returns c =
    equal_reports c.answers_are_one.ensures c.typed_queries_are_valid.ensures c.rounds_are_one.ensures c.one_command.ensures.commands c.steps_are_exact.ensures
