-- Digits of the 64 rows of a block, out of words of planes: bit i of a word, counted from the lowest, is that of row i.
use Rattle.std.specs.Prelude.{◌≡◌, ℕ, ◌<◌, slice_index, slice_index_or, Bool, List, length}
use Rattle.std.specs.List.{fold}
use Rattle.plane_kernels.specs.Rows.{bits_of}
use Rattle.query_model.specs.Knowledge.{longer}
use Rattle.known_column.specs.Columns.{block_rows, count_in_block}

-- the rows' numbers, followed by their bits in these words
abbrev pub digits_after : List ℕ → List ℕ → List ℕ
digits_after words numbers = fold (λ ns word. longer ns (bits_of 64 word)) numbers words

-- the word has the bits of the block in a plane
abbrev pub IsWord : ℕ → List Bool → ℕ → Type 0
IsWord block plane word = bits_of (count_in_block block (length plane)) word ≡ block_rows block plane

-- these are the words of the block in these planes
abbrev pub AreWords : ℕ → List (List Bool) → List ℕ → Type 0
AreWords block planes words =
    (j : ℕ) (none : List Bool) → j < length planes → IsWord block (slice_index_or planes j none) (slice_index words j)
