-- The cells of a shard, cut by lines into runs.
use Rattle.std.specs.Prelude.{◌≡◌, ◌-◌, ◌≤◌, Bool, true, false, ◌&&◌, List, [], ◌∷◌, IsTrue, drop, length, take, if◌then◌else◌}
use Rattle.shard_groups.specs.declared.cells.Cell.{Cell}
use Rattle.shard_groups.specs.declared.keys.Span.{Span}
use Rattle.shard_groups.specs.declared.runs.Run.{Run}
use Rattle.shard_groups.specs.declared.runs.Run.TheVariants.{All, Part}
use Rattle.shard_groups.specs.Groups.{cells_within}
use Rattle.shard_groups.specs.Keys.{is_within, meets}

-- the cell has a key, and each of its keys is in the line
abbrev pub is_of : List Span → Cell → Bool
is_of line cell = meets cell.keys cell.keys && is_within cell.keys line

-- the cells behind those in front that are of the line
abbrev pub behind : List Span → List Cell → List Cell
behind line [] = []
behind line (cell ∷ cells) = if is_of line cell then behind line cells else cell ∷ cells

-- the lines cut the cells into runs: those in front are of the first line, the next of the second, and so on, and none is left
abbrev pub is_cut : List (List Span) → List Cell → Bool
is_cut [] [] = true
is_cut [] (cell ∷ cells) = false
is_cut (line ∷ lines) cells = is_cut lines (behind line cells)

-- ---- a place in the cells of a shard

abbrev pub cells_of : Run → List Cell → List Cell
cells_of All cells = cells
cells_of (Part from to) cells = take (to - from) (drop from cells)

abbrev pub IsPartOf : Run → List Cell → Type 0
IsPartOf All cells = Unit {0}
IsPartOf (Part from to) cells = (from ≤ to) × (to ≤ length cells)

-- no other cell lies within the line
pub record IsNear (line : List Span) (cells : List Cell) (run : Run) : Type 0 where
  pub part : IsPartOf run cells
  pub same : cells_within line (cells_of run cells) ≡ cells_within line cells

abbrev pub AreBehind : List (List Span) → List Cell → List Cell → Type 0
AreBehind [] cells rest = Unit {0}
AreBehind (line ∷ lines) cells rest = (cells_within line cells ≡ cells_within line rest) × AreBehind lines cells rest

-- these lines are to come: they cut the cells behind the run into runs, and no cell in front lies within one of them
abbrev pub IsOn : List (List Span) → List Cell → Run → Type 0
IsOn lines cells All = Unit {0}
IsOn lines cells (Part from to) =
    (from ≤ to) × (to ≤ length cells) × IsTrue (is_cut lines (drop to cells)) × AreBehind lines cells (drop to cells)

-- ---- all shards

-- each of the one list and its partner in the other are so, and each has one
abbrev pub AreBeside : {X Y : Type 0} → (X → Y → Type 0) → List X → List Y → Type 0
AreBeside rel [] [] = Unit {0}
AreBeside rel [] (y ∷ ys) = ⊥
AreBeside rel (x ∷ xs) [] = ⊥
AreBeside rel (x ∷ xs) (y ∷ ys) = rel x y × AreBeside rel xs ys

abbrev pub ArePartsOf : List (List Cell) → List Run → Type 0
ArePartsOf shards runs = AreBeside (λ cells run. IsPartOf run cells) shards runs

abbrev pub AreNear : List Span → List (List Cell) → List Run → Type 0
AreNear line shards runs = AreBeside (IsNear line) shards runs

abbrev pub AreOn : List (List Span) → List (List Cell) → List Run → Type 0
AreOn lines shards runs = AreBeside (IsOn lines) shards runs
