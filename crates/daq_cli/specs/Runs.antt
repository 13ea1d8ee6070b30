-- What a run comes to, by the words of the command line and what the devices tell before and after.
use Rattle.std.specs.Prelude.{◌≡◌, ◌⊎◌, ℕ, Bool, true, false, ⊤, IsTrue, List}
use Rattle.command_line.specs.Commands.{Ask, Combine, Command, Demo, GoesWrong, Info, IsCommand, Load, Session}
use Rattle.command_line.specs.Commands.{Upgrade, ask, combine, demo, help, info, load, query, session, upgrade, version}
use Rattle.command_line.specs.Commands as line
use Rattle.daq_table.specs.Tables.{Contents}
use Rattle.outer_world.specs.Device.{Rose, SourceState, StoreState}
use Rattle.outer_world.specs.Whole.{Writes}
use Rattle.plane_file.specs.Opening.{Opened}
use Rattle.sql_text.specs.Answer.{IsText}
use Rattle.sql_text.specs.Tree.{Query}
use Rattle.daq_cli.specs.Inputs.{IsSchema}
use Rattle.daq_cli.specs.Notices.{NoticeCause}
use Rattle.daq_cli.specs.Questions.{Question, Reports}
use Rattle.daq_cli.specs.Refusals.{IsTold}
use Rattle.daq_cli.specs.Scripts.{AcceptsScript}
use Rattle.daq_cli.specs.Stores.{WritesTable}
use Rattle.daq_cli.specs.Worlds.{Device, WorldState, whole}
use Rattle.daq_cli.specs.Worlds as device
use Rattle.daq_cli.specs.commands.Ask.{AcceptsWords, AskAccepts, AskCause, AskShows, Asks}
use Rattle.daq_cli.specs.commands.Combine.{BeginsReport, CombineAccepts, CombineCause, CombineShows, CombinesReports}
use Rattle.daq_cli.specs.commands.Demo.{DemoCause, Demonstrates, demo_step}
use Rattle.daq_cli.specs.commands.Help.{help_text}
use Rattle.daq_cli.specs.commands.Info.{InfoAccepts, InfoCause, InfoShows, Informs, info_text}
use Rattle.daq_cli.specs.commands.Load.{LoadAccepts, LoadCause, LoadShows, Loads, loaded}
use Rattle.daq_cli.specs.commands.Query.{Begins, Queries, QueryAccepts, QueryCause, QueryShows}
use Rattle.daq_cli.specs.commands.Session.{BeginsSteps, SessionAccepts, SessionCause, SessionShows, Sessions}
use Rattle.daq_cli.specs.commands.Upgrade.{UpgradeAccepts, UpgradeCause, UpgradeShows, Upgrades, upgraded}
use Rattle.daq_cli.specs.commands.Version.{version_text}
use Rattle.daq_cli.specs.declared.refusal.Refusal.{Refusal}
use Rattle.daq_cli.specs.declared.refusal.Refusal.TheVariants.{NoMemory, Usage, WriteFault}
use Rattle.daq_cli.specs.declared.status.Status.{Status}
use Rattle.daq_cli.specs.declared.status.Status.TheVariants as s

-- ---- for each command

-- what it has done
abbrev pub Does : Command → WorldState → WorldState → Type 0
Does (ask a) before after = Asks a whole before.input after.input before.out after.out
Does (combine c) before after = CombinesReports c before.input after.input before.out after.out
Does (demo d) before after = Demonstrates d whole before.out after.out
Does (load l) before after = Loads l before.input after.input before.made after.made before.out after.out
Does (query q) before after = Queries q before.planes after.planes before.out after.out
Does (session s) before after = Sessions s before.side after.side before.planes after.planes before.out after.out
Does (info i) before after = Informs whole before.planes after.planes before.out after.out
Does (upgrade u) before after = Upgrades before.planes after.planes before.made after.made before.out after.out
Does help before after = Writes whole before.out after.out help_text
Does version before after = Writes whole before.out after.out version_text

-- why it stops
abbrev pub StopsFor : Command → WorldState → WorldState → Refusal → Type 0
StopsFor (ask a) before after why = AskCause a before.input after.input before.out after.out why
StopsFor (combine c) before after why = CombineCause c before.input after.input before.out after.out why
StopsFor (demo d) before after why = DemoCause d before.out after.out why
StopsFor (load l) before after why = LoadCause l before.input after.input before.made after.made before.out after.out why
StopsFor (query q) before after why = QueryCause q before.planes after.planes before.out after.out why
StopsFor (session s) before after why = SessionCause s before.side after.side before.planes after.planes before.out after.out why
StopsFor (info i) before after why = InfoCause before.planes after.planes before.out after.out why
StopsFor (upgrade u) before after why = UpgradeCause before.planes after.planes before.made after.made before.out after.out why
StopsFor help before after why = NoticeCause help_text before.out after.out why
StopsFor version before after why = NoticeCause version_text before.out after.out why

-- the refusal that it shows, by itself or with what its input, its script or its store tells
abbrev pub CommandShows : Command → WorldState → Refusal → Type 0
CommandShows (ask a) before why = AskShows a before.input.left why
CommandShows (combine c) before why = CombineShows c before.input.left why
CommandShows (demo d) before why = (demo_step d).shows why
CommandShows (load l) before why = LoadShows l before.input.left why
CommandShows (query q) before why = QueryShows q before.planes.held why
CommandShows (session s) before why = SessionShows s before.side.left before.planes.held why
CommandShows (info i) before why = InfoShows before.planes.held why
CommandShows (upgrade u) before why = UpgradeShows before.planes.held why
CommandShows help before why = ⊥
CommandShows version before why = ⊥

-- what is asked for: the report of a question, a report of a file's table or of parts by its text, the file of a table with a line of
-- that word, the lines of a file, or a text of the program's own
pub data Task : Type 0 where
  report : Question → Task
  inquire : List ℕ → Task
  store : List ℕ → Contents → Task
  describe : Opened → Task
  tell : List ℕ → Task

-- a command is accepted, and asks for this
pub data CommandAccepts (before : WorldState) : Command → Task → Type 0 where
  of_ask : (a : Ask) (question : Question) → AskAccepts a before.input.left question → CommandAccepts before (ask a) (report question)
  of_combine : (c : Combine) (text : List ℕ) → CombineAccepts c before.input.left text → CommandAccepts before (combine c) (inquire text)
  of_demo : (d : Demo) (question : Question) → (demo_step d).accepts question → CommandAccepts before (demo d) (report question)
  of_load : (l : Load) (table : Contents) → LoadAccepts l before.input.left table → CommandAccepts before (load l) (store loaded table)
  of_query : (q : line.Query) (text : List ℕ) → QueryAccepts q before.planes.held text → CommandAccepts before (query q) (inquire text)
  of_session : (s : Session) (text : List ℕ) → SessionAccepts s before.side.left before.planes.held text →
      CommandAccepts before (session s) (inquire text)
  of_info : (i : Info) (file : Opened) → InfoAccepts before.planes.held file → CommandAccepts before (info i) (describe file)
  of_upgrade : (u : Upgrade) (table : Contents) → UpgradeAccepts before.planes.held table →
      CommandAccepts before (upgrade u) (store upgraded table)
  of_help : CommandAccepts before help (tell help_text)
  of_version : CommandAccepts before version (tell version_text)

-- it was done to its end
abbrev pub IsFulfilled : Task → WorldState → WorldState → Type 0
IsFulfilled (report question) before after = Reports question whole before.out after.out
IsFulfilled (inquire text) before after = Writes whole before.out after.out text
IsFulfilled (store word table) before after = WritesTable word table whole before.made after.made before.out after.out
IsFulfilled (describe file) before after = Writes whole before.out after.out (info_text file)
IsFulfilled (tell text) before after = Writes whole before.out after.out text

-- its words alone are not refused
abbrev pub IsReadable : Command → Type 0
IsReadable (ask a) = AcceptsWords a
IsReadable (combine c) = ⊤
IsReadable (demo d) = (query : Query) × IsText d.sql query
IsReadable (load l) = IsSchema l.schema
IsReadable (query q) = (query : Query) × IsText q.sql query
IsReadable (session s) = ⊤
IsReadable (info i) = ⊤
IsReadable (upgrade u) = ⊤
IsReadable help = ⊤
IsReadable version = ⊤

-- nor are they with its script, where it has one that is told
abbrev pub IsReadableAside : Command → WorldState → Type 0
IsReadableAside (session s) before = AcceptsScript before.side.left
IsReadableAside command before = IsReadable command

-- the devices that it uses
abbrev pub uses : Command → Device → Bool
uses (ask a) device.input = true
uses (ask a) device.out = true
uses (combine c) device.input = true
uses (combine c) device.out = true
uses (demo d) device.out = true
uses (load l) device.input = true
uses (load l) device.made = true
uses (load l) device.out = true
uses (query q) device.planes = true
uses (query q) device.out = true
uses (session s) device.side = true
uses (session s) device.planes = true
uses (session s) device.out = true
uses (info i) device.planes = true
uses (info i) device.out = true
uses (upgrade u) device.planes = true
uses (upgrade u) device.made = true
uses (upgrade u) device.out = true
uses help device.out = true
uses version device.out = true
uses command other = false

-- ---- for the words

-- the words are a command, which was done
pub record IsDone (words : List (List ℕ)) (before after : WorldState) : Type 0 where
  pub command : Command
  pub is_command : IsCommand words command
  pub does : Does command before after

-- why the run stops
pub data IsCause (words : List (List ℕ)) (before after : WorldState) : Refusal → Type 0 where
  usage : (place : ℕ) → GoesWrong words place → IsCause words before after (Usage place)
  of_command : {why : Refusal} (command : Command) → IsCommand words command → StopsFor command before after why →
      IsCause words before after why

-- the words show the refusal, or they do with what the input, the script or the store tells
pub data Shows (words : List (List ℕ)) (before : WorldState) : Refusal → Type 0 where
  usage : (place : ℕ) → GoesWrong words place → Shows words before (Usage place)
  of_command : {why : Refusal} (command : Command) → IsCommand words command → CommandShows command before why → Shows words before why

-- all is accepted, and asks for this
pub record Accepts (words : List (List ℕ)) (before : WorldState) (task : Task) : Type 0 where
  pub command : Command
  pub is_command : IsCommand words command
  pub accepted : CommandAccepts before command task

-- the words are no command, or those of a command that is refused by its words alone
abbrev pub IsRefused : List (List ℕ) → Type 0
IsRefused words = (command : Command) → IsCommand words command → IsReadable command → ⊥

-- the same, or its script is refused
abbrev pub IsRefusedAside : List (List ℕ) → WorldState → Type 0
IsRefusedAside words before = (command : Command) → IsCommand words command → IsReadableAside command before → ⊥

-- the command of the words uses the device
abbrev pub Uses : List (List ℕ) → Device → Type 0
Uses words one = (command : Command) × IsCommand words command × IsTrue (uses command one)

-- nothing was written, to a file or as a report
abbrev pub IsUnwritten : WorldState → WorldState → Type 0
IsUnwritten before after = (after.made ≡ before.made) × (after.out ≡ before.out)

-- the words are a `query` whose rounds can begin, a `session` whose steps can, or a `combine` whose report can. It says when anything may
-- be written at all, and so takes whichever state the file is opened in; what was written then is said by the cause of the refusal
pub data BeginsRounds (words : List (List ℕ)) (before : WorldState) : Type 0 where
  in_query : (q : line.Query) (opened : StoreState) → IsCommand words (query q) → Begins q before.planes opened → BeginsRounds words before
  in_session : (s : Session) (read : SourceState) (opened : StoreState) → IsCommand words (session s) →
      BeginsSteps s before.side read before.planes opened → BeginsRounds words before
  in_combine : (c : Combine) (read : SourceState) → IsCommand words (combine c) → BeginsReport c before.input read →
      BeginsRounds words before

-- the command of the words uses the device, whose count of faults rose
abbrev pub Failed : List (List ℕ) → Device → ℕ → ℕ → Type 0
Failed words one before after = Uses words one × Rose before after

-- a read failed
abbrev pub ReadFails : List (List ℕ) → WorldState → WorldState → Type 0
ReadFails words before after =
    Failed words device.input before.input.faults after.input.faults
    ⊎ Failed words device.planes before.planes.faults after.planes.faults
    ⊎ Failed words device.side before.side.faults after.side.faults

-- rounds or steps were begun, a write of their report failed, and the run tells that
abbrev pub FailsInRounds : List (List ℕ) → Status → WorldState → WorldState → Type 0
FailsInRounds words status before after =
    BeginsRounds words before × Rose before.out.faults after.out.faults × IsTold WriteFault status before.err after.err

-- a device failed before the refusal came: a read, or the write of a report before the plane that is refused
abbrev pub FailsBefore : List (List ℕ) → Status → WorldState → WorldState → Type 0
FailsBefore words status before after = ReadFails words before after ⊎ FailsInRounds words status before after

-- the run tells of the refusal, or that memory ran out, or a device failed before
abbrev pub EndsSo : List (List ℕ) → Refusal → Status → WorldState → WorldState → Type 0
EndsSo words why status before after =
    IsTold why status before.err after.err ⊎ IsTold NoMemory status before.err after.err ⊎ FailsBefore words status before after

-- a write failed
abbrev pub WriteFails : List (List ℕ) → WorldState → WorldState → Type 0
WriteFails words before after =
    Failed words device.made before.made.faults after.made.faults
    ⊎ Failed words device.out before.out.faults after.out.faults ⊎ Rose before.err.faults after.err.faults

-- the run does what is asked for, unless memory runs out or a device fails
abbrev pub Completes : List (List ℕ) → Task → Status → WorldState → WorldState → Type 0
Completes words task status before after =
    ((status ≡ s.Done) × IsFulfilled task before after) ⊎ (status ≡ s.NoMemory) ⊎ ReadFails words before after
    ⊎ WriteFails words before after
