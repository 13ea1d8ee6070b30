-- The report of a query: a line of the query, a block for each round, and why the rounds ended. Of totals, without
-- GROUP BY and ORDER BY, a block has a line for each item.
use Rattle.std.specs.Prelude.{◌≡◌, ℕ, zero, suc, List, [], ◌++◌, codes, decimal, length, slice_get}
use Rattle.std.specs.declared.option.Option.{Option}
use Rattle.std.specs.declared.option.Option.TheVariants.{Some, None}
use Rattle.daq_cli.specs.Report.{ending_line, query_line}
use Rattle.daq_report.specs.Intervals.{name_of}
use Rattle.daq_table.specs.Tables.{ends_at, frame_of, planes}
use Rattle.plane_schedule.specs.declared.policy.Ending.{Ending}
use Rattle.sql_headline.specs.Lined.{lines_of}
use Rattle.sql_meaning.specs.Answers.{asked}
use Rattle.sql_meaning.specs.Attained.{AttainsEnds}
use Rattle.sql_print.specs.Printed.{printed}
use Rattle.sql_text.specs.Tree.{Item, Query}
use Rattle.run_headline.specs.Answers.{Holds, IsBehind}
use Rattle.table_rounds.specs.Rounds.{column_read}
use Rattle.run_headline.specs.Readings.{Reading, Wanted, count_read}

-- the blocks of the rounds below a number
abbrev pub blocks_before : (ℕ → List ℕ) → ℕ → List ℕ
blocks_before block zero = []
blocks_before block (suc round) = blocks_before block round ++ block round

-- the text has a line with the printed form of the query, the blocks of all rounds up to the last, and the line of their end
pub record HasBlocks (query : Query) (block : ℕ → List ℕ) (last : ℕ) (text : List ℕ) : Type 0 where
  pub ending : Ending
  pub is : text ≡ query_line (printed query) ++ (blocks_before block last ++ (block last ++ ending_line ending))

-- the column that a round read, by its name, and how many of its planes are read, of how many
abbrev pub column_text : Reading → ℕ → Option ℕ → List ℕ
column_text reading round None = []
column_text reading round (Some column) =
    codes " " ++ (name_of (slice_get reading.head.columns column) ++ (codes " " ++ (decimal (count_read reading round column) ++
    (codes "/" ++ decimal (planes (ends_at (frame_of reading.head) column))))))

-- the line of a round
abbrev pub line_of_round : Reading → ℕ → List ℕ
line_of_round reading round =
    codes "round " ++ (decimal round ++ (column_text reading round (column_read reading.columns round) ++ codes "\n"))

-- these are the blocks of a query without GROUP BY and ORDER BY: behind the line of its round there is for each item a line with its text,
-- which holds the answer, and what stands behind it
pub record HoldsTotals (reading : Reading) (wanted : Wanted) (block : ℕ → List ℕ) : Type 0 where
  pub texts : ℕ → List (List ℕ)
  pub besides : ℕ → List (List ℕ)
  pub lines : (round : ℕ) → block round ≡ line_of_round reading round ++ lines_of 1 (texts round) (besides round)
  pub as_many : (round : ℕ) → length (texts round) ≡ length (asked reading.text.head)
  pub holds : (place : ℕ) (item : Item) → slice_get (asked reading.text.head) place ≡ Some item →
      Holds reading item (AttainsEnds reading.head reading.text item) (λ round. slice_get (texts round) place)
  pub behind : (place : ℕ) (item : Item) (there : slice_get (asked reading.text.head) place ≡ Some item) →
      IsBehind reading wanted place item (holds place item there).spans (λ round. slice_get (besides round) place)
