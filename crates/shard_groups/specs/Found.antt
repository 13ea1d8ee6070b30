-- The lines of cells, found by taking in one cell after another.
use Rattle.std.specs.Prelude.{◌≡◌, ℕ, zero, suc, Bool, List, [], ◌∷◌, length, map, IsTrue, if◌then◌else◌}
use Rattle.query_model.specs.declared.query.ItemKind.{ItemKind}
use Rattle.shard_groups.specs.declared.cells.Cell.{Cell}
use Rattle.shard_groups.specs.declared.keys.Span.{Span}
use Rattle.shard_groups.specs.Groups.{IsCombined, Said, all_keys, is_present, said_from, said_of}
use Rattle.shard_groups.specs.Keys.{hull, meets}
use Rattle.shard_groups.specs.Lines.{AreLines, IsAscending, in_order}

-- the line with those of the others that it meets
abbrev pub taken_in : List Span → List (List Span) → List Span
taken_in line [] = line
taken_in line (other ∷ others) = if meets line other then hull (taken_in line others) other else taken_in line others

-- those that it does not meet
abbrev pub left_apart : List Span → List (List Span) → List (List Span)
left_apart line [] = []
left_apart line (other ∷ others) = if meets line other then left_apart line others else other ∷ left_apart line others

-- the line takes in others, so many times those that it meets then
abbrev pub widened : ℕ → List Span → List (List Span) → List (List Span)
widened zero line lines = line ∷ lines
widened (suc times) line lines = widened times (taken_in line lines) (left_apart line lines)

-- a cell more: it takes in as many times as there are lines
abbrev pub with_cell : List Span → List (List Span) → List (List Span)
with_cell cell lines = widened (length lines) cell lines

abbrev pub lines_of : List (List Span) → List (List Span)
lines_of [] = []
lines_of (cell ∷ cells) = with_cell cell (lines_of cells)

-- the lines of the cells, in order
abbrev pub lines_over : List (List Span) → List (List Span)
lines_over cells = in_order (lines_of cells)

-- each has a key, which has so many parts
abbrev pub HaveKeys : ℕ → List (List Span) → Type 0
HaveKeys columns [] = Unit {0}
HaveKeys columns (line ∷ lines) = (length line ≡ columns) × IsTrue (meets line line) × HaveKeys columns lines

-- these are lines of the cells, and in order there are no others
pub record AreFound (columns : ℕ) (cells : List (List Span)) : Type 0 where
  pub are_lines : AreLines cells (lines_over cells)
  pub ascending : IsAscending (lines_over cells)
  pub alone : HaveKeys columns cells → (lines : List (List Span)) → AreLines cells lines → IsAscending lines → lines ≡ lines_over cells

abbrev pub LinesAreFound : Type 0
LinesAreFound = (columns : ℕ) (cells : List (List Span)) → AreFound columns cells

-- ---- what each line says

pub record Line : Type 0 where
  pub keys : List Span
  pub present : Bool
  pub said : List Said

-- what a cell says
abbrev pub line_of : Cell → Line
line_of cell = record { keys = cell.keys; present = cell.present; said = map said_of cell.items }

-- what the shards say of the keys of a line together
abbrev pub line_over : List ItemKind → List (List Cell) → List Span → Line
line_over kinds shards keys = record { keys = keys; present = is_present keys shards; said = said_from 0 kinds keys shards }

-- the combined report
abbrev pub combined_lines : List ItemKind → List (List Cell) → List Line
combined_lines kinds shards = map (line_over kinds shards) (lines_over (all_keys shards))

-- combined cells say this, where each cell of the shards has a key
abbrev pub CombinedIsFound : Type 0
CombinedIsFound =
    (columns : ℕ) (kinds : List ItemKind) (shards : List (List Cell)) (cells : List Cell) → HaveKeys columns (all_keys shards) →
    IsCombined kinds shards cells → map line_of cells ≡ combined_lines kinds shards
