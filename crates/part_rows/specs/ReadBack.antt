-- The block over all parts, read back line by line as the block of a report.
use Rattle.std.specs.Prelude.{◌≡◌, ℕ, ◌<◌, List, [], ◌∷◌, length, map}
use Rattle.std.specs.List.{All}
use Rattle.report_text.specs.RowBlocks.{IsFirstLine, IsWhole, RowsTold, TakesRows, first_line, no_rows}
use Rattle.report_text.specs.Rows.{IsShownRow, row_line}
use Rattle.report_text.specs.declared.rows.RowLine.{RowLine}
use Rattle.query_kinds.specs.declared.rows.FirstRows.{FirstRows}
use Rattle.part_rows.specs.Combined.{CombinedRows, PartListing, combined, told_by}
use Rattle.part_rows.specs.Rising.{AreRisingParts}
use Rattle.part_rows.specs.Worlds.{IsIn}

-- the lines are taken one after the other
abbrev pub AreTaken : ℕ → RowsTold → List (List ℕ) → RowsTold → Type 0
AreTaken limit told [] end = told ≡ end
AreTaken limit told (line ∷ lines) end = (next : RowsTold) × TakesRows limit told line next × AreTaken limit next lines end

-- the lines of a block
abbrev pub lines_in : CombinedRows → List (List ℕ)
lines_in block = first_line block.top ∷ map row_line block.rows

-- all of it is taken, and it has as many rows as it says
pub record IsReadBack (limit : ℕ) (block : CombinedRows) : Type 0 where
  pub taken : AreTaken limit no_rows (lines_in block) (told_by block)
  pub whole : IsWhole (told_by block)

-- a report shows the lines of the parts, and a tag has a byte or more
pub record AreShownParts (parts : List PartListing) : Type 0 where
  pub tags : (part : PartListing) → IsIn part parts → 0 < length part.tag
  pub lines : (part : PartListing) → IsIn part parts → (line : RowLine) → IsIn line part.rows → IsShownRow line

-- then a report can show the lines of the block over all parts
abbrev pub LinesAreShown : Type 0
LinesAreShown = (asked : FirstRows) (parts : List PartListing) → AreShownParts parts → All IsShownRow (combined asked parts).rows

-- the block is one of a report, and so may be that of a part
abbrev pub BlocksAreReadBack : Type 0
BlocksAreReadBack =
    (asked : FirstRows) (parts : List PartListing) → AreShownParts parts → AreRisingParts parts →
    IsFirstLine (combined asked parts).top → IsReadBack asked.limit (combined asked parts)
