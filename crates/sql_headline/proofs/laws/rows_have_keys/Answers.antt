-- Rows have keys.
use Rattle.sql_headline.proofs.Keyed.{rows_have}
use Rattle.sql_headline.proofs.laws.rows_have_keys.Goals as goal

pub returns : goal.returns
returns c = rows_have
    (record {
      valid = c.typed_queries_are_valid.ensures;
      name = c.valid_queries_name_columns.ensures;
      agree = c.tables_agree.ensures;
      tell = c.planes_tell_stages.ensures;
      tables = c.tables_tell_stages.ensures;
      certain = c.rounds_are_certain.ensures;
    })
