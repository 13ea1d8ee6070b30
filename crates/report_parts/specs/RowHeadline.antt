-- What a combined report of first rows says of a table that is cut into parts: which rows are among the first of all parts together.
use Rattle.std.specs.Prelude.{◌≡◌, ℕ, ◌+◌, ◌<◌, false, List, [], length}
use Rattle.std.specs.declared.option.Option.TheVariants.{Some}
use Rattle.query_kinds.specs.declared.rows.FirstRows.{FirstRows}
use Rattle.report_text.specs.declared.rows.RowLine.{RowLine}
use Rattle.part_rows.specs.Combined.{is_skipped, listings, rows_of}
use Rattle.part_rows.specs.Faults.{AreClear}
use Rattle.part_rows.specs.Joined.{AreAllExact, AreOfSoMany, joined_name, listed_at}
use Rattle.part_rows.specs.Laws.{AreLater}
use Rattle.part_rows.specs.Tables.{Holds}
use Rattle.part_rows.specs.Trees.{renamed}
use Rattle.part_rows.specs.Whole.{AreAllLater, AreLinesRight, shown_name}
use Rattle.part_rows.specs.Worlds.{World}
use Rattle.part_rows.specs.declared.row.PartRow.{PartRow}
use Rattle.part_rows.specs.declared.row.RowName.{RowName}
use Rattle.report_parts.specs.Blocks as blocks
use Rattle.report_parts.specs.Course.{Task, Tell}
use Rattle.report_parts.specs.Reports.{block_over}
use Rattle.report_parts.specs.Rounds.{all_listed_in}
use Rattle.report_parts.specs.Tags.{AreInOrder}
use Rattle.report_parts.specs.Told.{Told}
use Rattle.report_parts.specs.declared.shape.Shape.{Shape}

-- ---- what is listed, and what is printed

-- the rows that the parts list in a round
abbrev pub rows_in : ℕ → List Told → List PartRow
rows_in round parts = rows_of (listings (all_listed_in round parts))

-- the lines that are printed of them
abbrev pub printed_rows : ℕ → Shape → List Told → List RowLine
printed_rows round shape parts = blocks.rows_of (block_over round shape parts)

-- the same rows as the printed lines tell them, of one part
abbrev pub told_rows_in : ℕ → Shape → List Told → List PartRow
told_rows_in round shape parts = rows_of (listed_at 0 [] (printed_rows round shape parts))

-- in the round the rows are judged: no part lists too many, or has judged none itself
abbrev pub AreJudgedIn : ℕ → List Told → Type 0
AreJudgedIn round parts = is_skipped (all_listed_in round parts) ≡ false

-- ---- what is certain

-- where the tags of the parts are clear, rows with other names show other names; else each block has a fault
abbrev pub AreTellingApart : ℕ → List Told → Type 0
AreTellingApart round parts =
    (a b : RowName) → AreClear (all_listed_in round parts) → a.part < length parts → b.part < length parts →
    shown_name (all_listed_in round parts) a ≡ shown_name (all_listed_in round parts) b → a ≡ b

-- The parts stand in the order of their tags, by which rows with equal keys go. In each round in which rows are judged, and in each world
-- in which the parts' reports hold, a line that says certain is that of a row among the first of all parts, and each of these has a line.
-- Where what each part lists in the next round is a later report, so is what is printed: what was certain still is, and what had no line
-- gets none. Where each part lists certain rows alone, with one key each, so are all that are printed. And what is printed holds again as
-- the report of one part, so that it may be combined with others
pub record AreRowsCertain (asked : FirstRows) (shape : Shape) (parts : List Told) : Type 0 where
  pub order : AreInOrder parts
  pub apart : (round : ℕ) → AreTellingApart round parts
  pub right : (round : ℕ) (world : World) → AreJudgedIn round parts → Holds asked (rows_in round parts) world →
      AreLinesRight asked (all_listed_in round parts) (printed_rows round shape parts) world
  pub nests : (round : ℕ) → AreJudgedIn round parts → AreJudgedIn (round + 1) parts →
      AreAllLater asked.down 0 (all_listed_in round parts) (all_listed_in (round + 1) parts) →
      AreLater asked.down (told_rows_in round shape parts) (told_rows_in (round + 1) shape parts)
  pub exact : (round : ℕ) → AreJudgedIn round parts → AreAllExact asked.down (rows_in round parts) →
      AreAllExact asked.down (told_rows_in round shape parts)
  pub again : (round : ℕ) (world : World) → AreJudgedIn round parts → AreClear (all_listed_in round parts) →
      AreOfSoMany (length parts) world → Holds asked (rows_in round parts) world →
      Holds asked (told_rows_in round shape parts) (renamed (joined_name 0 (all_listed_in round parts)) world)

-- the headline for parts: of first rows, behind whatever lines
abbrev pub CombinedRowsAreCertain : Type 0
CombinedRowsAreCertain =
    (task : Task) (lines : List (List ℕ)) (parts : List Told) (asked : FirstRows) → Tell task [] lines parts → task.shape.columns ≡ 0 →
    task.shape.rows ≡ Some asked → AreRowsCertain asked task.shape parts
