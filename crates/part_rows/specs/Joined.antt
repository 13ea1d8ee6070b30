-- The lines of the block over all parts as those of one part of more.
use Rattle.std.specs.Prelude.{◌≡◌, ℕ, ◌<◌, Bool, List, [], get_or, length, map}
use Rattle.report_text.specs.declared.rows.RowLine.{RowLine}
use Rattle.query_kinds.specs.declared.rows.FirstRows.{FirstRows}
use Rattle.part_rows.specs.declared.row.PartRow.{PartRow}
use Rattle.part_rows.specs.declared.row.RowName.{RowName}
use Rattle.part_rows.specs.Combined.{Listing, PartListing, joined_tag, listings, rows_of, told_lines}
use Rattle.part_rows.specs.Laws.{AreLater, IsExact}
use Rattle.part_rows.specs.Marks.{Mark}
use Rattle.part_rows.specs.Rising.{AreRisingParts}
use Rattle.part_rows.specs.Tables.{Holds}
use Rattle.part_rows.specs.Trees.{renamed}
use Rattle.part_rows.specs.Worlds.{AreNamedOnce, IsIn, World, names_of}

-- the tag of the part at a place
abbrev pub tag_at : List PartListing → ℕ → List ℕ
tag_at parts place = get_or (map (λ part. part.tag) parts) place []

-- the name of a row in the report of all parts, which is itself the part at a place
abbrev pub joined_name : ℕ → List PartListing → RowName → RowName
joined_name place parts name = record { part = place; tag = joined_tag (tag_at parts name.part) name.tag; number = name.number }

-- the lines as the part at a place lists them
abbrev pub listed_at : ℕ → List ℕ → List RowLine → List Listing
listed_at place tag lines = map (λ line. record { part = place; tag = tag; line = line }) lines

-- each row of the world is of one of so many parts
abbrev pub AreOfSoMany : ℕ → World → Type 0
AreOfSoMany parts world = (mark : Mark) → IsIn mark world → mark.name.part < parts

-- where the reports of the parts hold, the lines of the block over all of them do, as those of one part
abbrev pub LinesHold : Type 0
LinesHold =
    (place : ℕ) (tag : List ℕ) (asked : FirstRows) (parts : List PartListing) (world : World) →
    AreRisingParts parts → AreOfSoMany (length parts) world → Holds asked (rows_of (listings parts)) world →
    Holds asked (rows_of (listed_at place tag (told_lines asked (listings parts)))) (renamed (joined_name place parts) world)

-- with later reports of the parts, under the same tags, these lines are later ones
abbrev pub JoinedLinesNest : Type 0
JoinedLinesNest =
    (place : ℕ) (tag : List ℕ) (asked : FirstRows) (olds parts : List PartListing) →
    map (λ part. part.tag) olds ≡ map (λ part. part.tag) parts →
    AreNamedOnce (names_of (rows_of (listings olds))) → AreNamedOnce (names_of (rows_of (listings parts))) →
    AreLater asked.down (rows_of (listings olds)) (rows_of (listings parts)) →
    AreLater asked.down (rows_of (listed_at place tag (told_lines asked (listings olds))))
    (rows_of (listed_at place tag (told_lines asked (listings parts))))

-- each row is certain, and has one key
abbrev pub AreAllExact : Bool → List PartRow → Type 0
AreAllExact down rows = (row : PartRow) → IsIn row rows → IsExact down row

-- so it is of these lines, where it is of what the parts list
abbrev pub JoinedLinesBecomeExact : Type 0
JoinedLinesBecomeExact =
    (place : ℕ) (tag : List ℕ) (asked : FirstRows) (parts : List PartListing) →
    AreAllExact asked.down (rows_of (listings parts)) →
    AreAllExact asked.down (rows_of (listed_at place tag (told_lines asked (listings parts))))
