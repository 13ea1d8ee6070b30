-- What is kept of cells, and what is done to one of them.
use Rattle.std.specs.Prelude.{◌≡◌, ℕ, suc, ◌+◌, ◌*◌, ◌/◌, ◌%◌, ◌^◌}
use Rattle.std.specs.Prelude.{◌<◌, ◌≤◌, ◌==◌, Bool, false, cond, if◌then◌else◌}
use Rattle.std.specs.Prelude.{List, [], ◌∷◌, length, map, replicate, sum, get_or}
use Rattle.std.specs.List.{All, range_with_len}
use Rattle.daq_table.specs.Tables.{planes}
use Rattle.row_groups.specs.declared.part.GroupPart.{GroupPart}
use Rattle.row_groups.specs.Partition.{digits_of, planes_of_parts}

-- no column has more planes read than it has
abbrev pub AreParts : List GroupPart → Type 0
AreParts [] = Unit {0}
AreParts (p ∷ ps) = (p.read ≤ planes p.ends) × AreParts ps

-- there are few group columns, and they have few planes; each cell has as many digits as planes are read
pub record AreKept (parts : List GroupPart) (cells : List ℕ) : Type 0 where
  pub few : length parts ≤ 16
  pub read : AreParts parts
  pub planes : sum (planes_of_parts parts) ≤ 16
  pub rows : All (λ cell. cell < 2 ^ digits_of parts) cells

-- the first masks have the rows of as many cells
abbrev pub HaveCells : ℕ → List ℕ → List (List Bool) → Type 0
HaveCells count cells masks = (cell : ℕ) → cell < count → get_or masks cell [] ≡ map (λ c. c == cell) cells

-- all rows are in the first cell
abbrev pub AreFirst : ℕ → List (List Bool) → Type 0
AreFirst rows masks = (cell : ℕ) → cell < length masks → get_or masks cell [] ≡ replicate rows (cell == 0)

-- each mask is of so many rows
abbrev pub HaveRows : ℕ → List (List Bool) → Type 0
HaveRows rows masks = (place : ℕ) → place < length masks → length (get_or masks place []) ≡ rows

-- the first of these masks that has a row
abbrev pub first_with : ℕ → List (List Bool) → ℕ
first_with row [] = 0
first_with row (mask ∷ masks) = if get_or mask row false then 0 else suc (first_with row masks)

-- the cells of so many rows, as masks tell them
abbrev pub cells_told : ℕ → List (List Bool) → List ℕ
cells_told rows masks = map (λ row. first_with row masks) (range_with_len 0 rows)

-- the cells that are written, or where none is those that masks tell
abbrev pub told_cells : ℕ → List (List Bool) → List ℕ → List ℕ
told_cells rows masks [] = cells_told rows masks
told_cells rows masks (cell ∷ cells) = cell ∷ cells

-- a number where a bit is 0, another where it is 1
abbrev pub written : ℕ → ℕ → Bool → ℕ
written number old bit = cond bit number old

-- of so many rows masks tell the cells while these are few; the cells are written before they are more, else there is room for them
pub record AreHeld (parts : List GroupPart) (rows : ℕ) (masks : List (List Bool)) (cells : List ℕ) (room : ℕ) : Type 0 where
  pub kept : AreKept parts (told_cells rows masks cells)
  pub count : length masks ≡ 16
  pub long : HaveRows rows masks
  pub same : length (told_cells rows masks cells) ≡ rows
  pub told : 2 ^ digits_of parts ≤ 16 → HaveCells (2 ^ digits_of parts) (told_cells rows masks cells) masks
  pub many : 16 < 2 ^ digits_of parts → length cells ≡ rows
  pub room_left : cells ≡ [] → rows ≤ room

-- the digits of a cell that stand behind those of the column
abbrev pub digits_behind : List GroupPart → ℕ → ℕ
digits_behind [] c = 0
digits_behind (p ∷ ps) c = if p.column == c then digits_of ps else digits_behind ps c

-- a number with one more digit in front of so many of its digits
abbrev pub inserted : ℕ → ℕ → Bool → ℕ
inserted shift cell bit = (2 * (cell / 2 ^ shift) + cond bit 1 0) * 2 ^ shift + cell % 2 ^ shift

-- a number without the digit in front of so many of its digits, and that digit
abbrev pub without_digit : ℕ → ℕ → ℕ
without_digit shift cell = cell / 2 ^ shift / 2 * 2 ^ shift + cell % 2 ^ shift

abbrev pub digit_in : ℕ → ℕ → Bool
digit_in shift cell = (cell / 2 ^ shift) % 2 == 1
