-- A source that holds a script: the steps to its queries, and why it is not read or has none.
use Rattle.std.specs.Prelude.{◌≡◌, ◌≢◌, ℕ, ◌+◌, ◌≤◌, List, length, Some}
use Rattle.std.specs.Io.KnownBytes.{Consumes, IsAtEnd}
use Rattle.std.specs.declared.option.Option.{Option}
use Rattle.outer_world.specs.Device.{Rose, SourceState}
use Rattle.outer_world.specs.Whole.{ReadsToEnd, Takes}
use Rattle.session_script.specs.Answers.{IsScript, most_bytes}
use Rattle.session_script.specs.Answers as scripts
use Rattle.session_script.specs.Lines.{Line}
use Rattle.session_script.specs.declared.fault.ScriptFault.{ScriptFault}
use Rattle.session_script.specs.declared.fault.ScriptFault.TheVariants as s
use Rattle.sql_text.specs.Answer.{IsFault, IsText}
use Rattle.sql_text.specs.Tree.{Query}
use Rattle.sql_text.specs.declared.fault.SqlFault.{SqlFault}
use Rattle.sql_text.specs.declared.fault.SqlFault.TheVariants as q
use Rattle.daq_cli.specs.Steps.{Step, each, then}
use Rattle.daq_cli.specs.declared.refusal.Refusal.{Refusal}
use Rattle.daq_cli.specs.declared.refusal.Refusal.TheVariants.{LineQuery, Script, ReadFault, NoMemory}

-- ---- the steps

-- the bytes are no script, for this reason
pub record ShowsScript (bytes : List ℕ) (why : Refusal) : Type 0 where
  pub fault : ScriptFault
  pub shown : fault ≢ s.NoMemory
  pub is : why ≡ Script fault
  pub faulty : scripts.Refuses bytes fault

abbrev pub script_step : List ℕ → Step (List Line)
script_step bytes = record { accepts = IsScript bytes; shows = ShowsScript bytes }

-- a query of a script, and the number of its line
pub record Scripted : Type 0 where
  pub line : ℕ
  pub query : Query

pub record IsScripted (line : Line) (one : Scripted) : Type 0 where
  pub numbered : one.line ≡ line.number
  pub is_text : IsText line.text one.query

-- the text of a line is no query
pub record ShowsLine (line : Line) (why : Refusal) : Type 0 where
  pub fault : SqlFault
  pub shown : fault ≢ q.NoMemory
  pub is : why ≡ LineQuery line.number fault
  pub faulty : IsFault line.text fault

abbrev pub line_step : Line → Step Scripted
line_step line = record { accepts = IsScripted line; shows = ShowsLine line }

-- the script, and then the query of each of its lines
abbrev pub queries_step : List ℕ → Step (List Scripted)
queries_step script = then (script_step script) (λ lines. each line_step lines)

-- a script that is told has queries
abbrev pub AcceptsScript : Option (List ℕ) → Type 0
AcceptsScript side = (script : List ℕ) → side ≡ Some script → (queries : List Scripted) × (queries_step script).accepts queries

-- ---- what becomes of a script

-- it was read to its end, and has these queries
pub record ReadsScript (side side' : SourceState) (queries : List Scripted) : Type 0 where
  pub script : List ℕ
  pub read : ReadsToEnd side side' most_bytes script
  pub accepted : (queries_step script).accepts queries

-- the bytes that came show the refusal: the source was read to its end, or less than 4,097 bytes past the limit
pub record StopsAtScript (side side' : SourceState) (why : Refusal) : Type 0 where
  pub script : List ℕ
  pub came : Consumes side.left side'.left script
  pub within : length script ≤ most_bytes + 4096
  pub ended : length script ≤ most_bytes → IsAtEnd side'.left
  pub shown : (queries_step script).shows why

-- why there are no queries
pub data ScriptCause (side side' : SourceState) : Refusal → Type 0 where
  at_bytes : {why : Refusal} → StopsAtScript side side' why → ScriptCause side side' why
  read_fault : Rose side.faults side'.faults → Takes side side' 0 most_bytes → ScriptCause side side' ReadFault
  no_memory : Takes side side' 0 most_bytes → ScriptCause side side' NoMemory
