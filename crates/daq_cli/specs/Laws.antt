-- That the steps of each command are exact, and that there is always one: so a run has one answer.
use Rattle.std.specs.Prelude.{◌≢◌, ℕ, List}
use Rattle.command_line.specs.Commands.{Ask, Demo, Load, Query, Session, reads}
use Rattle.plane_file.specs.Bytes.{AreBytes}
use Rattle.report_stream.specs.Accepted.{ReportsAreAnswered}
use Rattle.report_stream.specs.Shown.{FaultsAreTold}
use Rattle.daq_cli.specs.Files.{file_step}
use Rattle.daq_cli.specs.Inputs.{schema_step}
use Rattle.daq_cli.specs.Questions.{sql_step}
use Rattle.daq_cli.specs.Scripts.{queries_step}
use Rattle.daq_cli.specs.Steps.{IsComplete, IsExact}
use Rattle.daq_cli.specs.commands.Ask.{ask_step, words_step}
use Rattle.daq_cli.specs.commands.Demo.{demo_step}
use Rattle.daq_cli.specs.commands.Load.{load_step}
use Rattle.daq_cli.specs.commands.Query.{query_step, report_step}
use Rattle.daq_cli.specs.commands.Session as together
use Rattle.daq_cli.specs.commands.Upgrade.{upgrade_step}

-- words, words with an input, a script or a store, the bytes of a script and those of a store are accepted as one question, report, table,
-- list of queries or file at most or show one refusal at most, and never both; reports that are accepted are answered,
-- and those that show a fault are refused
pub record StepsAreExact : Type 0 where
  pub words : (ask : Ask) → IsExact (words_step ask)
  pub ask : (ask : Ask) (bytes : List ℕ) → IsExact (ask_step ask bytes)
  pub demo : (demo : Demo) → IsExact (demo_step demo)
  pub schema : (load : Load) → IsExact (schema_step load.schema)
  pub load : (load : Load) (bytes : List ℕ) → IsExact (load_step load bytes)
  pub file : (bytes : List ℕ) → IsExact (file_step bytes)
  pub sql : (text : List ℕ) → IsExact (sql_step text)
  pub query : (query : Query) (bytes : List ℕ) → IsExact (query_step query bytes)
  pub upgrade : (bytes : List ℕ) → IsExact (upgrade_step bytes)
  pub report : (query : Query) (bytes : List ℕ) → IsExact (report_step query bytes)
  pub script : (script : List ℕ) → IsExact (queries_step script)
  pub session : (session : Session) (script bytes : List ℕ) → IsExact (together.report_step session script bytes)
  pub reports : ReportsAreAnswered
  pub faults : FaultsAreTold

-- words alone, words with an input, a script or a store, words of a `demo`, the bytes of a script and those of a store are accepted or
-- show a refusal
pub record StepsAreComplete : Type 0 where
  pub words : (ask : Ask) → IsComplete (words_step ask)
  pub ask : (ask : Ask) (bytes : List ℕ) → IsComplete (ask_step ask bytes)
  pub demo : (demo : Demo) → IsComplete (demo_step demo)
  pub schema : (load : Load) → IsComplete (schema_step load.schema)
  pub load : (load : Load) (bytes : List ℕ) → IsComplete (load_step load bytes)
  pub file : (bytes : List ℕ) → AreBytes bytes → IsComplete (file_step bytes)
  pub sql : (text : List ℕ) → IsComplete (sql_step text)
  pub query : (query : Query) (bytes : List ℕ) → AreBytes bytes → IsComplete (query_step query bytes)
  pub upgrade : (bytes : List ℕ) → AreBytes bytes → IsComplete (upgrade_step bytes)
  pub report : (query : Query) (bytes : List ℕ) → AreBytes bytes → IsComplete (report_step query bytes)
  pub script : (script : List ℕ) → IsComplete (queries_step script)
  pub session : (session : Session) (script bytes : List ℕ) → ((names : List ℕ) → session.options.order ≢ reads names) → AreBytes bytes →
      IsComplete (together.report_step session script bytes)
