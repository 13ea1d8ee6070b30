-- The order of the lines of the block over all parts.
use Rattle.std.specs.Prelude.{Bool, List, [], ◌∷◌, IsTrue}
use Rattle.std.specs.Cmp.Lexicographic.{slice_cmp}
use Rattle.std.specs.Ordering.{is_lt, nat_cmp}
use Rattle.report_text.specs.RowBlocks.{comes_before as stands_before}
use Rattle.report_text.specs.declared.rows.RowLine.{RowLine}
use Rattle.query_kinds.specs.declared.rows.FirstRows.{FirstRows}
use Rattle.part_rows.specs.Combined.{PartListing, listings, rows_of, told_lines}
use Rattle.part_rows.specs.Faults.{is_clear}
use Rattle.part_rows.specs.Worlds.{AreNamedOnce, IsIn, names_of}

-- each stands before those behind it
abbrev pub AreInOrder : {X : Type 0} → (X → X → Bool) → List X → Type 0
AreInOrder {X = X} before [] = Unit {0}
AreInOrder {X = X} before (x ∷ xs) = ((y : X) → IsIn y xs → IsTrue (before x y)) × AreInOrder before xs

-- by tag and number, as the lines of a report are
abbrev pub AreRisingLines : List RowLine → Type 0
AreRisingLines lines = AreInOrder (λ a b. stands_before a.name b.name) lines

-- the tags of the parts are clear and rise, and so do the lines of each part
pub record AreRisingParts (parts : List PartListing) : Type 0 where
  pub clear : (part : PartListing) → IsIn part parts → IsTrue (is_clear part.tag)
  pub tags : AreInOrder (λ a b. is_lt (slice_cmp nat_cmp a.tag b.tag)) parts
  pub lines : (part : PartListing) → IsIn part parts → AreRisingLines part.rows

-- then the lines of the block over all parts rise, as those of a report that can be read back do
abbrev pub LinesRise : Type 0
LinesRise = (asked : FirstRows) (parts : List PartListing) → AreRisingParts parts → AreRisingLines (told_lines asked (listings parts))

-- where the lines of each part rise, no row is listed twice
abbrev pub RisingLinesAreListedOnce : Type 0
RisingLinesAreListedOnce =
    (parts : List PartListing) → ((part : PartListing) → IsIn part parts → AreRisingLines part.rows) →
    AreNamedOnce (names_of (rows_of (listings parts)))
