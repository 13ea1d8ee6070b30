-- A last round that is wanted cuts the report.
use Rattle.run_headline.proofs.TwoRuns.{last_rounds_cut}
use Rattle.run_headline.proofs.two_runs.last_rounds_cut_reports.Goals as goal

pub returns : goal.returns
returns c =
    last_rounds_cut c.answers_are_one.ensures c.typed_queries_are_valid.ensures c.rounds_are_one.ensures c.one_command.ensures.commands c.steps_are_exact.ensures
