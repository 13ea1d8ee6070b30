-- What a block of first rows over all parts says.
use Rattle.std.specs.Prelude.{ℕ, ◌+◌, nat_lt, Bool, true, false, not, ◌||◌, List, [], ◌∷◌, ◌++◌, codes, length, map, if◌then◌else◌}
use Rattle.std.specs.List.{filter, list_any}
use Rattle.std.specs.declared.option.Option.TheVariants.{Some}
use Rattle.part_groups.specs.Cells.{span_of}
use Rattle.plane_schedule.specs.Plans.{few_rows}
use Rattle.report_text.specs.RowBlocks.{RowsTold, certain_rows, possible_rows, tag_bytes, told_rows}
use Rattle.query_model.specs.declared.bounds.Standing.{Standing}
use Rattle.query_model.specs.declared.bounds.Standing.TheVariants.{Certain, Possible, Excluded}
use Rattle.report_text.specs.declared.row_blocks.RowsTop.{RowsTop}
use Rattle.report_text.specs.declared.row_blocks.RowsTop.TheVariants.{Counts, Skipped}
use Rattle.report_text.specs.declared.rows.RowLine.{RowLine}
use Rattle.report_text.specs.declared.rows.TopLine.{TopLine}
use Rattle.part_rows.specs.declared.listed.ListedRow.{ListedRow}
use Rattle.part_rows.specs.declared.listed.ListedRows.{ListedRows}
use Rattle.query_kinds.specs.declared.rows.FirstRows.{FirstRows}
use Rattle.part_rows.specs.declared.row.PartRow.{PartRow}
use Rattle.part_rows.specs.Standings.{standing}
use Rattle.part_rows.specs.Tables.{is_certain, is_excluded}

-- ---- what the parts list

-- a row that a part lists: the place and the tag of the part, and the line of the row
pub record Listing : Type 0 where
  pub part : ℕ
  pub tag : List ℕ
  pub line : RowLine

abbrev pub listing : ListedRow → Listing
listing row = record { part = row.part; tag = row.tag.now; line = row.line.now }

-- what a part lists: its tag, whether its own report has judged no row, and the lines of its rows
pub record PartListing : Type 0 where
  pub tag : List ℕ
  pub skipped : Bool
  pub rows : List RowLine

abbrev pub part_listing : ListedRows → PartListing
part_listing part = record { tag = part.tag.now; skipped = part.skipped; rows = part.rows.now }

abbrev pub part_listings : List ListedRows → List PartListing
part_listings parts = map part_listing parts

-- the rows of the part at a place
abbrev pub listings_of : ℕ → PartListing → List Listing
listings_of place part = map (λ line. record { part = place; tag = part.tag; line = line }) part.rows

abbrev pub listings_from : ℕ → List PartListing → List Listing
listings_from place [] = []
listings_from place (part ∷ parts) = listings_of place part ++ listings_from (place + 1) parts

-- those of all parts
abbrev pub listings : List PartListing → List Listing
listings parts = listings_from 0 parts

-- the row as its part knows it
abbrev pub row_of : Listing → PartRow
row_of row =
    record {
      name = record { part = row.part; tag = tag_bytes row.line.name.tag; number = row.line.name.number };
      certain = row.line.certain;
      key = span_of row.line.key;
    }

abbrev pub rows_of : List Listing → List PartRow
rows_of listed = map row_of listed

-- ---- what the block says

-- the tag of a part, before the tag that its own report gives a row
abbrev pub joined_tag : List ℕ → List ℕ → List ℕ
joined_tag tag [] = tag
joined_tag tag (byte ∷ inner) = tag ++ (codes " " ++ byte ∷ inner)

-- what is known of a row among some
abbrev pub standing_in : FirstRows → List PartRow → Listing → Standing
standing_in asked rows row = standing asked rows (row_of row)

-- the line of a row: its joined tag and its number, whether it is certain, and its key as its part shows it
abbrev pub line_by : Bool → Listing → RowLine
line_by certain row =
    record {
      name = record { tag = Some (joined_tag row.tag (tag_bytes row.line.name.tag)); number = row.line.name.number };
      certain = certain;
      key = row.line.key;
    }

abbrev pub line_of : FirstRows → List PartRow → Listing → RowLine
line_of asked rows row = line_by (is_certain (standing_in asked rows row)) row

-- the line of a row of which that is known, if it has one
abbrev pub line_if : Standing → Listing → List RowLine
line_if Certain row = line_by true row ∷ []
line_if Possible row = line_by false row ∷ []
line_if Excluded row = []

-- the lines of those that are not excluded
abbrev pub lines_of : FirstRows → List PartRow → List Listing → List RowLine
lines_of asked rows listed = map (line_of asked rows) (filter (λ row. not (is_excluded (standing_in asked rows row))) listed)

abbrev pub told_lines : FirstRows → List Listing → List RowLine
told_lines asked listed = lines_of asked (rows_of listed) listed

-- what stands before the rows, and the lines of those that are listed
pub record CombinedRows : Type 0 where
  pub top : RowsTop
  pub rows : List RowLine

-- what it tells as the block of a report
abbrev pub told_by : CombinedRows → RowsTold
told_by block = told_rows block.top block.rows

abbrev pub top_of : ℕ → List RowLine → TopLine
top_of limit lines = record { limit = limit; certain = certain_rows lines; possible = possible_rows lines }

abbrev pub block_of : FirstRows → List Listing → CombinedRows
block_of asked listed = record { top = Counts (top_of asked.limit (told_lines asked listed)); rows = told_lines asked listed }

-- the block in which no row is judged, and none has a line
abbrev pub skipped_block : ℕ → CombinedRows
skipped_block limit = record { top = Skipped limit; rows = [] }

-- some part lists more than few rows, or has judged none itself
abbrev pub is_skipped : List PartListing → Bool
is_skipped parts = list_any (λ part. part.skipped || nat_lt few_rows (length part.rows)) parts

-- the block over all parts
abbrev pub combined : FirstRows → List PartListing → CombinedRows
combined asked parts =
    if is_skipped parts then skipped_block asked.limit else block_of asked (listings parts)
