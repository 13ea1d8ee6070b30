-- The headline of `run`: what was written of a query, and what this says of a table.
use Rattle.std.specs.Prelude.{◌≡◌, ℕ, List, length}
use Rattle.std.specs.Io.KnownBytes.{Appends}
use Rattle.std.specs.declared.option.Option.TheVariants.{Some}
use Rattle.daq_cli.specs.Inputs.{most_bytes}
use Rattle.daq_cli.specs.Worlds.{WorldState}
use Rattle.daq_table.specs.Tables.{Contents, IsTable, frame_of}
use Rattle.daq_table.specs.declared.schema_item.SchemaItem.{SchemaItem}
use Rattle.daq_table.specs.declared.table_head.Head.{Head}
use Rattle.outer_world.specs.Device.{SinkState, SourceState}
use Rattle.outer_world.specs.Whole.{ReadsToEnd}
use Rattle.plane_course.specs.Told.{bits_at}
use Rattle.plane_file.specs.Opening.{IsFileHead}
use Rattle.query_model.specs.Knowledge.{plane_of}
use Rattle.sql_meaning.specs.Laws.{HasValues}
use Rattle.sql_text.specs.Tree.{Query}
use Rattle.table_rounds.specs.Rounds.{Planes}
use Rattle.run_headline.specs.Csv.{StandsFor}
use Rattle.run_headline.specs.Printed.{HasBlocks}
use Rattle.run_headline.specs.Readings.{Wanted}
use Rattle.run_headline.specs.Sessions.{AreAnswered}
use Rattle.run_headline.specs.Told.{IsTold}

-- a report of the query was written: that of some rounds over a table with this head and these planes
pub record IsAnswered (query : Query) (wanted : Wanted) (head : Head) (bits : Planes) (out out' : SinkState) : Type 0 where
  pub text : List ℕ
  pub written : Appends out.written out'.written text
  pub columns : List ℕ
  pub block : ℕ → List ℕ
  pub blocks : HasBlocks query block (length columns) text
  pub told : IsTold (record { text = query; head = head; bits = bits; columns = columns }) wanted block

-- the same of a table that is told whole
abbrev pub IsAnsweredOn : Query → Wanted → Contents → SinkState → SinkState → Type 0
IsAnsweredOn query wanted table = IsAnswered query wanted table.head (plane_of (frame_of table.head) table.cells)

-- the input was read to its end, and under these items of a schema its bytes stand for the table, which is itself a world of each round
pub record HasRead (items : List SchemaItem) (input input' : SourceState) (table : Contents) : Type 0 where
  pub bytes : List ℕ
  pub read : ReadsToEnd input input' most_bytes bytes
  pub stands : StandsFor items bytes table
  pub is_table : IsTable (frame_of table.head) table.cells
  pub has_values : HasValues table.head table.cells

-- what is asked for: by `ask`, of the table of the input, a CSV; by `demo`, of a table that it makes; by `query`, of the table whose file
-- the store holds; and by `session`, of that table, some queries together
pub data Request : Type 0 where
  of_input : List SchemaItem → Contents → Query → Wanted → Request
  of_table : Contents → Query → Wanted → Request
  of_file : Query → Wanted → Request
  of_session : List Query → Wanted → Request

-- the headline: it was answered. Of a store this is said where its bytes are known
abbrev pub IsHeadline : Request → WorldState → WorldState → Type 0
IsHeadline (of_input items table query wanted) before after =
    HasRead items before.input after.input table × IsAnsweredOn query wanted table before.out after.out
IsHeadline (of_table table query wanted) before after = IsAnsweredOn query wanted table before.out after.out
IsHeadline (of_file query wanted) before after =
    (bytes : List ℕ) → before.planes.held ≡ Some bytes → (version : ℕ) × (head : Head) × IsFileHead bytes version head
    × IsAnswered query wanted head (bits_at head bytes) before.out after.out
IsHeadline (of_session queries wanted) before after =
    (bytes : List ℕ) → before.planes.held ≡ Some bytes → (version : ℕ) × (head : Head) × IsFileHead bytes version head
    × AreAnswered queries wanted head (bits_at head bytes) before.out after.out
