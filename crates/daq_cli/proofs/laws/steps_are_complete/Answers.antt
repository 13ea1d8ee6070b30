use Rattle.daq_cli.proofs.Completeness.{steps_complete}
use Rattle.daq_cli.proofs.laws.steps_are_complete.Goals as goal

pub returns : goal.returns
returns c = steps_complete (record {
  texts = c.some_answer.ensures;
  schemas = c.schemas_have_meanings.ensures;
  tables = c.texts_have_answers.ensures;
  seeds = c.seeds_have_tables.ensures;
  typings = c.trees_have_typings.ensures;
  valid = c.typed_queries_are_valid.ensures;
  reads = c.words_have_answers.ensures;
  heads = c.faultless_files_have_heads.ensures;
  files = c.files_have_tables.ensures;
  rounds = record {
    valid = c.typed_queries_are_valid.ensures;
    columns = c.valid_queries_name_columns.ensures;
    choose = c.policies_choose.ensures;
    have = c.rounds_have_planes.ensures;
    taken = c.taken_is_knowledge.ensures;
    begin = c.rounds_begin.ensures;
  };
  scripts = c.scripts_have_answers.ensures;
})
