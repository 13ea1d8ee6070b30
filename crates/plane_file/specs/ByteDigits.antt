-- The binary digits of cells, a byte of each cell at once, in words that have a bit for each of 64 cells.
use Rattle.std.specs.Prelude.{◌≡◌, ◌≢◌, ℕ, zero, suc, ◌+◌, ◌-◌, ◌*◌, ◌/◌, ◌%◌, ◌^◌, ◌<◌, ◌==◌}
use Rattle.std.specs.Prelude.{Bool, cond, List, [], ◌∷◌, length, map, slice_index_or, take, drop}
use Rattle.std.specs.List.{range_with_len}
use Rattle.std.specs.Simd.Lanes.{mask_l}
use Rattle.daq_table.specs.Tables.{Contents, ends_at, frame_of, number_of, width}
use Rattle.plane_kernels.specs.Rows.{digit_at}

-- a byte of a cell, counted from the lowest
abbrev pub byte_of : ℕ → ℕ → ℕ
byte_of byte cell = (cell / 2 ^ (8 * byte)) % 256

-- the eight digits of that byte of these cells, the lowest first, each as the bits of a word
abbrev pub byte_digits : ℕ → List ℕ → List ℕ
byte_digits byte cells = map (λ place. mask_l (map (digit_at (8 * byte + place)) cells)) (range_with_len 0 8)

-- the same of each block of 64 cells, of so many blocks
abbrev pub digit_blocks : ℕ → ℕ → List ℕ → List (List ℕ)
digit_blocks zero byte cells = []
digit_blocks (suc n) byte cells = byte_digits byte (take 64 cells) ∷ digit_blocks n byte (drop 64 cells)

-- the words of one of the eight digits
abbrev pub words_at : ℕ → List (List ℕ) → List ℕ
words_at place blocks = map (λ digits. slice_index_or digits place 0) blocks

-- the plane of a digit of cells that have so many, counted from the highest
abbrev pub plane_of_digit : ℕ → ℕ → List ℕ → List Bool
plane_of_digit width place cells = map (λ cell. (cell / 2 ^ (width - (place + 1))) % 2 == 1) cells

-- the blocks hold the byte of that digit, unless it is the highest of its byte or of all
abbrev pub HoldNext : List ℕ → ℕ → ℕ → List (List ℕ) → Type 0
HoldNext cells width place blocks =
    0 < place → place < width → (width - (place + 1)) % 8 ≢ 7
    → blocks ≡ digit_blocks (length blocks) ((width - (place + 1)) / 8) cells

-- the same of a plane of a column, whose digits stand behind the plane that tells null
abbrev pub HoldBlocks : Contents → ℕ → ℕ → List (List ℕ) → Type 0
HoldBlocks table c j blocks =
    HoldNext (map number_of (slice_index_or table.cells c [])) (width (ends_at (frame_of table.head) c))
    (j - cond (ends_at (frame_of table.head) c).nullable 1 0) blocks
