-- What the words of a run ask for: the query whose text they have, the table and the lines; and the law that the headline holds of it.
use Rattle.std.specs.Prelude.{◌≡◌, ℕ, ◌≤◌, List, length}
use Rattle.std.specs.List.{AllZip}
use Rattle.command_line.specs.Commands.{Ask, Demo, IsAsk, IsDemo, IsQuery, IsSession, Options, Session}
use Rattle.command_line.specs.Commands as line
use Rattle.csv_load.specs.TableOf.{IsTableOf}
use Rattle.daq_cli.specs.Inputs as inputs
use Rattle.daq_cli.specs.Inputs.{limits}
use Rattle.daq_cli.specs.Runs.{IsDone}
use Rattle.daq_cli.specs.Worlds.{WorldState}
use Rattle.daq_cli.specs.commands.Demo.{IsGenerated}
use Rattle.daq_table.specs.Schemas.{DeclaresItems}
use Rattle.daq_table.specs.Tables.{Contents}
use Rattle.daq_table.specs.declared.schema_item.SchemaItem.{SchemaItem}
use Rattle.outer_world.specs.Device.{SourceState}
use Rattle.outer_world.specs.Whole.{ReadsToEnd}
use Rattle.session_script.specs.Answers.{IsScript, most_bytes}
use Rattle.session_script.specs.Lines.{Line}
use Rattle.sql_print.specs.Bare.{bare}
use Rattle.sql_print.specs.Printed.{printed}
use Rattle.sql_text.specs.Answer.{IsText}
use Rattle.sql_text.specs.Tree.{Query}
use Rattle.run_headline.specs.Headline.{IsHeadline, of_file, of_input, of_session, of_table}
use Rattle.run_headline.specs.Readings.{Wanted}

-- the source was read to its end, and its lines are these queries
pub record HasScript (side side' : SourceState) (queries : List Query) : Type 0 where
  pub script : List ℕ
  pub lines : List Line
  pub read : ReadsToEnd side side' most_bytes script
  pub is_script : IsScript script lines
  pub texts : AllZip (λ line query. IsText line.text query) lines queries

-- the lines that options ask for
abbrev pub wanted_by : Options → Wanted
wanted_by options = record { listing = options.listing; clip = options.clip; exact = options.exact }

-- the input was read to its end, and the table is one that is taken: its bytes stand for it within the limits
pub record HasTaken (items : List SchemaItem) (input input' : SourceState) (table : Contents) : Type 0 where
  pub bytes : List ℕ
  pub read : ReadsToEnd input input' inputs.most_bytes bytes
  pub is_table : IsTableOf bytes items limits table

-- the words ask for something, and the headline holds of it: the queries are those of the SQL, or of the script, the items those that the
-- schema declares, and the table of `demo` that of its seed
pub record IsAnsweredAsAsked (words : List (List ℕ)) (before after : WorldState) : Type 0 where
  pub asked : (a : Ask) → IsAsk words a → (items : List SchemaItem) × (table : Contents) × (query : Query) × DeclaresItems a.schema items
      × HasTaken items before.input after.input table × IsText a.sql query
      × IsHeadline (of_input items table query (wanted_by a.options)) before after
  pub made : (d : Demo) → IsDemo words d → (table : Contents) × (query : Query) × IsGenerated d.seed d.rows table × IsText d.sql query
      × IsHeadline (of_table table query (wanted_by d.options)) before after
  pub queried : (q : line.Query) → IsQuery words q → (query : Query) × IsText q.sql query
      × IsHeadline (of_file query (wanted_by q.options)) before after
  pub together : (s : Session) → IsSession words s → (queries : List Query) × HasScript before.side after.side queries
      × IsHeadline (of_session queries (wanted_by s.options)) before after

-- so it is with words that were done
abbrev pub RunsHoldAnswers : Type 0
RunsHoldAnswers = (words : List (List ℕ)) (before after : WorldState) → IsDone words before after → IsAnsweredAsAsked words before after

-- ---- the first line

-- two queries of texts whose printed forms are one, and short enough to be asked again, are one but for places
abbrev pub PrintedFormsAreOfOneQuery : Type 0
PrintedFormsAreOfOneQuery =
    (text other_text : List ℕ) (query other : Query) → IsText text query → IsText other_text other → length (printed query) ≤ 4096 →
    printed other ≡ printed query → bare other ≡ bare query
