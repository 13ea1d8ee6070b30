-- What is asked of a table whose planes are read one by one, and the worlds of a round: the tables that may be the one that is asked.
use Rattle.std.specs.Prelude.{◌≡◌, ℕ, ◌<◌, ◌≤◌, ◌==◌, Bool, List, length, take, count_by, IfSome}
use Rattle.std.specs.List.{AllByRecursion}
use Rattle.daq_table.specs.Tables.{Cells, IsTable, ends_at, frame_of, planes}
use Rattle.daq_table.specs.declared.table_head.Head.{Head}
use Rattle.plane_schedule.specs.declared.policy.Listing.{Listing}
use Rattle.query_model.specs.Knowledge.{plane_of}
use Rattle.sql_meaning.specs.Conditions.{Row}
use Rattle.sql_meaning.specs.Answers.{group_of}
use Rattle.sql_meaning.specs.Laws.{HasValues}
use Rattle.sql_meaning.specs.Rows.{row_at, rows_at}
use Rattle.sql_text.specs.Tree.{Query}
use Rattle.sql_typing.specs.Names.{names_in, place_of}
use Rattle.table_rounds.specs.Rounds.{Planes}

-- which lines are wanted beside the ordinary: with `--list` and `--part` those of rows that may be among the first, with `--clip` and
-- `--exact-avg` a second line of an item
pub record Wanted : Type 0 where
  pub listing : Listing
  pub clip : Bool
  pub exact : Bool

-- a query, the head and the planes of a table, and the columns of the table that were read, in order: round 0 reads nothing, and each
-- later one the next plane of a column
pub record Reading : Type 0 where
  pub text : Query
  pub head : Head
  pub bits : Planes
  pub columns : List ℕ

abbrev pub last_round : Reading → ℕ
last_round reading = length reading.columns

-- how many planes of a column are read after a round
abbrev pub count_read : Reading → ℕ → ℕ → ℕ
count_read reading round column = count_by (λ c. c == column) (take round reading.columns)

-- all planes of each column that the query names are read
abbrev pub IsAllRead : Reading → ℕ → Type 0
IsAllRead reading round =
    AllByRecursion (λ name. IfSome (place_of reading.head.columns name.name)
    (λ column. count_read reading round column ≡ planes (ends_at (frame_of reading.head) column))) (names_in reading.text)

-- a world of a round: a whole table with the head, which has the planes that were read. Null alone has no value in it
pub record IsWorld (reading : Reading) (round : ℕ) (world : Cells) : Type 0 where
  pub within : round ≤ last_round reading
  pub table : IsTable (frame_of reading.head) world
  pub same : (column number : ℕ) → number < count_read reading round column →
      plane_of (frame_of reading.head) world column number ≡ reading.bits column number
  pub has_values : HasValues reading.head world

-- the rows of a world that are in the group of one row; without GROUP BY all at which the condition is true, whichever row is named
abbrev pub rows_in : Reading → Cells → ℕ → List Row
rows_in reading world one = group_of reading.text (row_at reading.head world one) (rows_at reading.head world)
