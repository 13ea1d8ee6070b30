-- What was done holds the answers.
use Rattle.run_headline.proofs.Commands.{headline_holds}
use Rattle.run_headline.proofs.laws.runs_hold_answers.Goals as goal

pub returns : goal.returns
returns c = headline_holds
    (record {
      valid = c.typed_queries_are_valid.ensures;
      name = c.valid_queries_name_columns.ensures;
      agree = c.tables_agree.ensures;
      tell = c.planes_tell_stages.ensures;
      tables = c.tables_tell_stages.ensures;
      certain = c.rounds_are_certain.ensures;
    })
    c.one_command.ensures.commands
