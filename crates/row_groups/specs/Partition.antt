-- The rows of a table by cells: a row's cell is the prefixes of its codes in the group columns, joined as one number.
use Rattle.std.specs.Prelude.{◌≡◌, ◌↔◌, ℕ, ◌+◌, ◌*◌, ◌^◌, ◌<◌, ◌==◌}
use Rattle.std.specs.Prelude.{nat_lt, Bool, true, false, cond, ◌&&◌, IsTrue, if◌then◌else◌}
use Rattle.std.specs.Prelude.{List, [], ◌∷◌, length, map, replicate, sum, take, get_or, slice_get, slice_index_or, Some}
use Rattle.std.specs.List.{list_any}
use Rattle.std.specs.Simd.Lanes.{zip2}
use Rattle.daq_table.specs.declared.head.Ends.{Ends}
use Rattle.daq_table.specs.Tables.{Frame, ends_at, no_ends, planes, rows_of}
use Rattle.query_model.specs.Knowledge.{Knowledge, IsKnowledge, is_legal, known_at, range_of, start, taken}
use Rattle.query_model.specs.Truths.{IsIn, Range}
use Rattle.query_model.specs.Answers.{Key}
use Rattle.query_model.specs.Groups.{AreInRanges, AreLegal, cell_count, cell_of, counts_of, joined, parts_of}
use Rattle.query_model.specs.Validity.{no_repeats}
use Rattle.row_groups.specs.declared.part.GroupPart.{GroupPart}
use Rattle.row_groups.specs.declared.cell_keys.CellKeys.{CellKeys}
use Rattle.row_groups.specs.declared.prefix.PartRange.{PartRange}

-- the group columns, and the cell of each row
pub record RowCells : Type 0 where
  pub parts : List GroupPart
  pub cells : List ℕ

-- the first numbers of a block are the cells of the rows from one on, as far as there are rows
abbrev pub AreCellsFrom : ℕ → List ℕ → List ℕ → Type 0
AreCellsFrom first cells block =
    (row : ℕ) → row < 64 → first + row < length cells → slice_get cells (first + row) ≡ Some (get_or block row 0)

-- the planes read of each group column
abbrev pub counts_of_parts : List GroupPart → List ℕ
counts_of_parts parts = map (λ (p : GroupPart). p.read) parts

-- the planes that each group column has
abbrev pub planes_of_parts : List GroupPart → List ℕ
planes_of_parts parts = map (λ (p : GroupPart). planes p.ends) parts

-- the planes read of all group columns
abbrev pub digits_of : List GroupPart → ℕ
digits_of parts = sum (counts_of_parts parts)

-- ---- nothing is read

-- a group column, by the ends of the query's columns
abbrev pub unread_part : List Ends → ℕ → GroupPart
unread_part ends c = record { column = c; ends = slice_index_or ends c no_ends; read = 0 }

-- there is one cell, which all rows are in
abbrev pub unread_cells : List ℕ → List Ends → ℕ → RowCells
unread_cells columns ends rows = record { parts = map (unread_part ends) columns; cells = replicate rows 0 }

-- ---- one more plane

-- the column is a group column with an unread plane
abbrev pub has_unread : List GroupPart → ℕ → Bool
has_unread [] c = false
has_unread (p ∷ ps) c = if p.column == c then nat_lt p.read (planes p.ends) else has_unread ps c

-- one more plane of the column is read
abbrev pub raised : List GroupPart → ℕ → List GroupPart
raised [] c = []
raised (p ∷ ps) c = if p.column == c then record { column = p.column; ends = p.ends; read = p.read + 1 } ∷ ps else p ∷ raised ps c

-- the prefixes, that of the column followed by one more digit
abbrev pub followed : List GroupPart → ℕ → Bool → List ℕ → List ℕ
followed [] c bit prefixes = []
followed (p ∷ ps) c bit [] = []
followed (p ∷ ps) c bit (q ∷ qs) = if p.column == c then (2 * q + cond bit 1 0) ∷ qs else q ∷ followed ps c bit qs

-- the cell of a row after a plane of the column: twice the old prefix of that column and the bit, joined again
abbrev pub refined_cell : List GroupPart → ℕ → ℕ → Bool → ℕ
refined_cell parts c cell bit = joined (counts_of_parts (raised parts c)) (followed parts c bit (parts_of (counts_of_parts parts) cell))

abbrev pub refined : RowCells → ℕ → List Bool → RowCells
refined cells c bits = record { parts = raised cells.parts c; cells = zip2 (refined_cell cells.parts c) cells.cells bits }

-- ---- the keys of a cell

-- each part is a legal prefix of its column
abbrev pub are_legal : List GroupPart → List ℕ → Bool
are_legal [] [] = true
are_legal [] (q ∷ qs) = false
are_legal (p ∷ ps) [] = false
are_legal (p ∷ ps) (q ∷ qs) = is_legal p.ends p.read q && are_legal ps qs

abbrev pub is_legal_cell : List GroupPart → ℕ → Bool
is_legal_cell parts cell = are_legal parts (parts_of (counts_of_parts parts) cell)

-- what each part of a key may be
abbrev pub ranges_of_prefixes : List GroupPart → List ℕ → List Range
ranges_of_prefixes [] qs = []
ranges_of_prefixes (p ∷ ps) [] = []
ranges_of_prefixes (p ∷ ps) (q ∷ qs) = range_of p.ends p.read q ∷ ranges_of_prefixes ps qs

abbrev pub ranges_of_cell : List GroupPart → ℕ → List Range
ranges_of_cell parts cell = ranges_of_prefixes parts (parts_of (counts_of_parts parts) cell)

-- what a part of a key stands for
abbrev pub range_for : PartRange → Range
range_for range = record { null = range.null; numbers = record { low = range.low; high = range.high } }

-- what each part of these keys may be
abbrev pub ranges_in : CellKeys → List Range
ranges_in keys = map range_for (take keys.columns keys.parts)

-- ---- what is known of a table

-- a group column under a knowledge
abbrev pub part_under : Frame → Knowledge → ℕ → GroupPart
part_under frame known c = record { column = c; ends = ends_at frame c; read = (known_at known c).read }

-- these are the cells of the rows under the knowledge
pub record AreCells (frame : Frame) (known : Knowledge) (groups : List ℕ) (cells : RowCells) : Type 0 where
  pub parts : cells.parts ≡ map (part_under frame known) groups
  pub rows : cells.cells ≡ map (cell_of known groups) (rows_of frame)

-- the column is a group column
abbrev pub is_group : List ℕ → ℕ → Bool
is_group groups c = list_any (λ g. c == g) groups

-- where nothing is read, the cells are those of the start
abbrev pub OpeningStands : Type 0
OpeningStands = (frame : Frame) (groups : List ℕ) → AreCells frame (start frame) groups (unread_cells groups frame.columns frame.rows)

-- the cells of a knowledge become those after the next plane of a group column
abbrev pub RefiningStands : Type 0
RefiningStands =
    (frame : Frame) (known : Knowledge) (groups : List ℕ) (cells : RowCells) (c : ℕ) (bits : List Bool) → IsKnowledge frame known →
    AreCells frame known groups cells → c < length frame.columns → length bits ≡ frame.rows → IsTrue (no_repeats groups) →
    IsTrue (is_group groups c) → AreCells frame (taken known c bits) groups (refined cells c bits)

-- a plane of another column leaves the cells
abbrev pub OthersLeaveCells : Type 0
OthersLeaveCells =
    (frame : Frame) (known : Knowledge) (groups : List ℕ) (cells : RowCells) (c : ℕ) (bits : List Bool) →
    AreCells frame known groups cells → is_group groups c ≡ false → AreCells frame (taken known c bits) groups cells

-- each part of a key is in its range
abbrev pub IsKeyIn : List Range → Key → Type 0
IsKeyIn [] [] = Unit {0}
IsKeyIn (range ∷ ranges) (k ∷ ks) = IsIn range k × IsKeyIn ranges ks
IsKeyIn ranges ks = ⊥

-- of the cells under a knowledge: there are as many as the groups have
abbrev pub TellCount : Knowledge → List ℕ → RowCells → Type 0
TellCount known groups cells = 2 ^ digits_of cells.parts ≡ cell_count known groups

-- the legal ones are those with legal prefixes
abbrev pub TellLegal : Frame → Knowledge → List ℕ → RowCells → Type 0
TellLegal frame known groups cells =
    (cell : ℕ) → IsTrue (is_legal_cell cells.parts cell) ↔ AreLegal frame known groups (parts_of (counts_of known groups) cell)

-- and their ranges hold the keys that are in the ranges of their prefixes
abbrev pub TellRanges : Frame → Knowledge → List ℕ → RowCells → Type 0
TellRanges frame known groups cells =
    (cell : ℕ) (key : Key) →
    IsKeyIn (ranges_of_cell cells.parts cell) key ↔ AreInRanges frame known groups (parts_of (counts_of known groups) cell) key

pub record TellKeys (frame : Frame) (known : Knowledge) (groups : List ℕ) (cells : RowCells) : Type 0 where
  pub count : TellCount known groups cells
  pub legal : TellLegal frame known groups cells
  pub ranges : TellRanges frame known groups cells

abbrev pub CellsTellKeys : Type 0
CellsTellKeys =
    (frame : Frame) (known : Knowledge) (groups : List ℕ) (cells : RowCells) → AreCells frame known groups cells →
    TellKeys frame known groups cells
