-- Rows that remain of all, and the blocks of 512 that may still have one.
use Rattle.std.specs.Prelude.{◌≡◌, ℕ, ◌+◌, ◌*◌, ◌<◌, ◌≤◌, Bool, false, List, length, slice_index_or}

-- a block has no row
abbrev pub HasNone : ℕ → List Bool → Type 0
HasNone block rows = (j : ℕ) → j < 512 → slice_index_or rows (512 * block + j) false ≡ false

-- there is a bit for each block, and a block whose bit is 0 has no row
pub record AreBlocksOf (rows blocks : List Bool) : Type 0 where
  pub room : length rows ≤ 512 * length blocks
  pub tight : 512 * length blocks < length rows + 512
  pub none : (block : ℕ) → slice_index_or blocks block false ≡ false → HasNone block rows

-- the rows of a block are those of another list, and the others are as they were
pub record TakesBlock (block : ℕ) (source old new : List Bool) : Type 0 where
  pub rows : length new ≡ length old
  pub here : (j : ℕ) → j < 512 → slice_index_or new (512 * block + j) false ≡ slice_index_or source (512 * block + j) false
  pub before : (k : ℕ) → k < 512 * block → slice_index_or new k false ≡ slice_index_or old k false
  pub behind : (k : ℕ) → 512 * block + 512 ≤ k → slice_index_or new k false ≡ slice_index_or old k false
