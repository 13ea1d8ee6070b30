use Rattle.daq_cli.proofs.Exactness.{steps_exact}
use Rattle.daq_cli.proofs.laws.steps_are_exact.Goals as goal

pub returns : goal.returns
returns c = steps_exact (record {
  queries = c.one_answer.ensures.queries;
  faults = c.one_answer.ensures.faults;
  apart = c.one_answer.ensures.apart;
  schemas = c.schemas_are_exact.ensures.same;
  schema_faults = c.schemas_are_exact.ensures.one;
  good_schemas = c.schemas_are_exact.ensures.none;
  tables = c.tables_are_one.ensures;
  table_faults = c.faults_are_exact.ensures.one;
  good_tables = c.faults_are_exact.ensures.none;
  typings = c.typing_is_exact.ensures.once;
  valid = c.typed_queries_are_valid.ensures;
  type_faults = c.typing_is_exact.ensures.one;
  good_typings = c.typing_is_exact.ensures.none;
  seeds = c.tables_are_one-2.ensures;
  reads = c.answers_are_one.ensures;
  faultless = c.spelled_files_have_no_fault.ensures;
  heads = c.files_have_one_head.ensures;
  files = c.tables_are_one-3.ensures;
  file_faults = c.file_faults_are_exact.ensures.one;
  good_files = c.file_faults_are_exact.ensures.none;
  choices = c.choices_are_one.ensures;
  scripts = c.answers_are_one-2.ensures;
  reports = c.reports_are_answered.ensures;
  stream_faults = c.faults_are_told.ensures;
})
