-- The report of a session: its queries, after each step the blocks of those that it went to, and why the steps ended. A step reads a plane,
-- for those queries that go on with it.
use Rattle.std.specs.Prelude.{◌≡◌, ℕ, suc, List, [], ◌++◌, length, map, slice_get, slice_index_or, unwrap_or}
use Rattle.std.specs.Io.KnownBytes.{Appends}
use Rattle.std.specs.declared.option.Option.{Option}
use Rattle.std.specs.declared.option.Option.TheVariants.{Some, None}
use Rattle.daq_cli.specs.Report.{ending_line}
use Rattle.daq_cli.specs.SessionReport.{at_line, numbered, queries_lines}
use Rattle.daq_table.specs.declared.table_head.Head.{Head}
use Rattle.outer_world.specs.Device.{SinkState}
use Rattle.plane_schedule.specs.declared.policy.Ending.{Ending}
use Rattle.sql_print.specs.Printed.{printed}
use Rattle.sql_text.specs.Tree.{Query}
use Rattle.table_rounds.specs.Rounds.{Planes}
use Rattle.run_headline.specs.Printed.{blocks_before}
use Rattle.run_headline.specs.Readings.{Wanted}
use Rattle.run_headline.specs.Told.{IsTold}

-- the block of a query behind the line of its step and its number, or nothing
abbrev pub piece : ℕ → ℕ → Option (List ℕ) → List ℕ
piece step number None = []
piece step number (Some block) = at_line step number ++ block

-- the text has the lines of the queries, in their printed forms, what is shown after all steps up to the last, and the line of their end
pub record HasSteps (queries : List Query) (shown : ℕ → List (Option (List ℕ))) (last : ℕ) (text : List ℕ) : Type 0 where
  pub ending : Ending
  pub is : text ≡ queries_lines (map printed queries) ++ (blocks_before (λ step. numbered (piece step) 1 (shown step)) last
      ++ (numbered (piece last) 1 (shown last) ++ ending_line ending))

-- what is shown of the query at a place, one behind the other, are the blocks of a report of it
pub record IsShownOf (wanted : Wanted) (head : Head) (bits : Planes) (shown : ℕ → List (Option (List ℕ))) (last place : ℕ)
    (query : Query) : Type 0 where
  pub columns : List ℕ
  pub block : ℕ → List ℕ
  pub same : blocks_before (λ step. unwrap_or (slice_index_or (shown step) place None) []) (suc last)
      ≡ blocks_before block (suc (length columns))
  pub told : IsTold (record { text = query; head = head; bits = bits; columns = columns }) wanted block

-- a report of these queries was written, over a table with this head and these planes
pub record AreAnswered (queries : List Query) (wanted : Wanted) (head : Head) (bits : Planes) (out out' : SinkState) : Type 0 where
  pub text : List ℕ
  pub written : Appends out.written out'.written text
  pub last : ℕ
  pub shown : ℕ → List (Option (List ℕ))
  pub as_many : (step : ℕ) → length (shown step) ≡ length queries
  pub steps : HasSteps queries shown last text
  pub each : (place : ℕ) (query : Query) → slice_get queries place ≡ Some query → IsShownOf wanted head bits shown last place query
