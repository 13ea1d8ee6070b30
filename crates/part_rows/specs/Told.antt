-- What the lines of the block over all parts tell for certain, as statements.
use Rattle.std.specs.Prelude.{◌≡◌, not, List, IsTrue}
use Rattle.report_text.specs.declared.rows.RowLine.{RowLine}
use Rattle.query_kinds.specs.declared.rows.FirstRows.{FirstRows}
use Rattle.part_rows.specs.declared.row.PartRow.{PartRow}
use Rattle.part_rows.specs.declared.row.RowName.{RowName}
use Rattle.part_rows.specs.Combined.{Listing, line_of, row_of, rows_of, standing_in, told_lines}
use Rattle.part_rows.specs.Laws.{AreLater, HasFirst, IsExact}
use Rattle.part_rows.specs.Marks.{Mark}
use Rattle.part_rows.specs.Tables.{is_excluded}
use Rattle.part_rows.specs.Worlds.{AreNamedOnce, IsFirst, IsIn, IsWorld, World, names_of}

-- the row has a line: it is not excluded
abbrev pub IsInBlock : FirstRows → List Listing → Listing → Type 0
IsInBlock asked listed row = IsTrue (not (is_excluded (standing_in asked (rows_of listed) row)))

-- a listed row with that name has a line
pub record HasLine (asked : FirstRows) (listed : List Listing) (name : RowName) : Type 0 where
  pub row : Listing
  pub is : IsIn row listed
  pub named : (row_of row).name ≡ name
  pub stands : IsInBlock asked listed row
  pub told : IsIn (line_of asked (rows_of listed) row) (told_lines asked listed)

-- the line of that row says that it is certain
abbrev pub IsToldCertain : FirstRows → List Listing → Listing → Type 0
IsToldCertain asked listed row = IsTrue (line_of asked (rows_of listed) row).certain

-- ---- right

-- a row whose line says certain is among the first of all parts, and each row that is has a line
pub record TellRight (asked : FirstRows) (listed : List Listing) (world : World) : Type 0 where
  pub certain : (row : Listing) → IsIn row listed → IsToldCertain asked listed row → HasFirst asked world (row_of row)
  pub all : (mark : Mark) → IsIn mark world → IsFirst asked world mark → HasLine asked listed mark.name

-- so it is in each world in which the parts' reports hold
abbrev pub LinesAreRight : Type 0
LinesAreRight =
    (asked : FirstRows) (listed : List Listing) (world : World) →
    AreNamedOnce (names_of (rows_of listed)) → IsWorld asked (rows_of listed) world → TellRight asked listed world

-- ---- nested

-- a listed row with that name has a line that says certain
pub record HasCertainLine (asked : FirstRows) (listed : List Listing) (name : RowName) : Type 0 where
  pub line : HasLine asked listed name
  pub certain : IsToldCertain asked listed line.row

-- what was certain still is, and what has a line had one before
pub record TellNested (asked : FirstRows) (olds listed : List Listing) : Type 0 where
  pub certain : (old : Listing) → IsIn old olds → IsToldCertain asked olds old → HasCertainLine asked listed (row_of old).name
  pub lines : (row : Listing) → IsIn row listed → IsInBlock asked listed row → HasLine asked olds (row_of row).name

-- with later reports of the parts
abbrev pub LinesNest : Type 0
LinesNest =
    (asked : FirstRows) (olds listed : List Listing) →
    AreNamedOnce (names_of (rows_of olds)) → AreNamedOnce (names_of (rows_of listed)) →
    AreLater asked.down (rows_of olds) (rows_of listed) → TellNested asked olds listed

-- ---- exact

-- where each listed row is certain and has one key, each line says certain
abbrev pub LinesBecomeExact : Type 0
LinesBecomeExact =
    (asked : FirstRows) (listed : List Listing) →
    ((row : PartRow) → IsIn row (rows_of listed) → IsExact asked.down row) →
    (line : RowLine) → IsIn line (told_lines asked listed) → IsTrue line.certain
