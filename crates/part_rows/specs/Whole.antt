-- What the lines of the block over all parts say of the rows of all parts together, by the names that they show.
use Rattle.std.specs.Prelude.{◌≡◌, ℕ, ◌+◌, ◌<◌, Bool, List, [], ◌∷◌, IsTrue, length}
use Rattle.std.specs.declared.option.Option.TheVariants.{Some}
use Rattle.std.specs.Cmp.Lexicographic.{slice_cmp}
use Rattle.std.specs.Ordering.{is_lt, nat_cmp}
use Rattle.part_groups.specs.Cells.{span_of}
use Rattle.report_text.specs.declared.rows.RowLine.{RowLine}
use Rattle.report_text.specs.declared.rows.RowName.{RowName as ShownName}
use Rattle.shard_groups.specs.Keys.{allows}
use Rattle.query_kinds.specs.declared.rows.FirstRows.{FirstRows}
use Rattle.part_rows.specs.declared.row.RowName.{RowName}
use Rattle.part_rows.specs.Combined.{PartListing, joined_tag, listings, listings_of, rows_of, told_lines}
use Rattle.part_rows.specs.Faults.{AreClear}
use Rattle.part_rows.specs.Joined.{tag_at}
use Rattle.part_rows.specs.Laws.{AreLater}
use Rattle.part_rows.specs.Marks.{Mark}
use Rattle.part_rows.specs.Rising.{AreInOrder}
use Rattle.part_rows.specs.Tables.{Holds}
use Rattle.part_rows.specs.Worlds.{IsFirst, IsIn, World}

-- ---- names

-- the name that a line shows of a row: the tag of its part, before the tag that the part's own report gives it, and its number
abbrev pub shown_name : List PartListing → RowName → ShownName
shown_name parts name = record { tag = Some (joined_tag (tag_at parts name.part) name.tag); number = name.number }

-- the tags rise
abbrev pub AreTagsRising : List PartListing → Type 0
AreTagsRising parts = AreInOrder (λ a b. is_lt (slice_cmp nat_cmp a.tag b.tag)) parts

-- where they rise and are clear, rows with other names show other names
abbrev pub NamesAreApart : Type 0
NamesAreApart =
    (parts : List PartListing) (a b : RowName) → AreClear parts → AreTagsRising parts → a.part < length parts → b.part < length parts →
    shown_name parts a ≡ shown_name parts b → a ≡ b

-- ---- lines

-- the line of a row shows its name, and a span that allows its key
pub record IsLineOf (parts : List PartListing) (mark : Mark) (line : RowLine) : Type 0 where
  pub named : line.name ≡ shown_name parts mark.name
  pub key : IsTrue (allows (span_of line.key) mark.key)

-- it is the line of a row that is among the first of all parts
pub record IsLineOfFirst (asked : FirstRows) (parts : List PartListing) (world : World) (line : RowLine) : Type 0 where
  pub mark : Mark
  pub is : IsIn mark world
  pub shows : IsLineOf parts mark line
  pub first : IsFirst asked world mark

-- the row has a line
pub record HasLineIn (parts : List PartListing) (lines : List RowLine) (mark : Mark) : Type 0 where
  pub line : RowLine
  pub is : IsIn line lines
  pub shows : IsLineOf parts mark line

-- a line that says certain is that of a row among the first of all parts, and each of these rows has a line
pub record AreLinesRight (asked : FirstRows) (parts : List PartListing) (lines : List RowLine) (world : World) : Type 0 where
  pub certain : (line : RowLine) → IsIn line lines → IsTrue line.certain → IsLineOfFirst asked parts world line
  pub all : (mark : Mark) → IsIn mark world → IsFirst asked world mark → HasLineIn parts lines mark

-- so it is in each world in which the parts' reports hold
abbrev pub NamedLinesAreRight : Type 0
NamedLinesAreRight =
    (asked : FirstRows) (parts : List PartListing) (world : World) → Holds asked (rows_of (listings parts)) world →
    AreLinesRight asked parts (told_lines asked (listings parts)) world

-- ---- later reports

-- what each part lists is a later report than what it listed before
abbrev pub AreAllLater : Bool → ℕ → List PartListing → List PartListing → Type 0
AreAllLater down place [] [] = Unit {0}
AreAllLater down place [] (part ∷ parts) = ⊥
AreAllLater down place (old ∷ olds) [] = ⊥
AreAllLater down place (old ∷ olds) (part ∷ parts) =
    AreLater down (rows_of (listings_of place old)) (rows_of (listings_of place part)) × AreAllLater down (place + 1) olds parts

-- so it is of what all parts list together
abbrev pub PartsAreLater : Type 0
PartsAreLater =
    (down : Bool) (olds parts : List PartListing) → AreAllLater down 0 olds parts →
    AreLater down (rows_of (listings olds)) (rows_of (listings parts))
