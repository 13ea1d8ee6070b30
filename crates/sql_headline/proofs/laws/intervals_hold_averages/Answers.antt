-- Intervals hold averages.
use Rattle.sql_headline.proofs.Averaged.{averages_hold}
use Rattle.sql_headline.proofs.laws.intervals_hold_averages.Goals as goal

pub returns : goal.returns
returns c = averages_hold
    (record {
      valid = c.typed_queries_are_valid.ensures;
      name = c.valid_queries_name_columns.ensures;
      agree = c.tables_agree.ensures;
      tell = c.planes_tell_stages.ensures;
      tables = c.tables_tell_stages.ensures;
      certain = c.rounds_are_certain.ensures;
    })
