-- The bytes of a plane: its words, each of 8 bytes, the lowest byte first.
use Rattle.std.specs.Prelude.{◌≡◌, ℕ, ◌+◌, ◌-◌, ◌*◌, ◌/◌, ◌^◌}
use Rattle.std.specs.Prelude.{◌<◌, ◌≤◌, min, Bool, List, length, take, drop}
use Rattle.std.specs.Int.{w64, from_le_bytes, to_le_bytes}
use Rattle.std.specs.List.{All, flat_map}
use Rattle.plane_kernels.specs.Words.{packed}

-- how many words hold so many rows
abbrev pub word_count : ℕ → ℕ
word_count rows = (rows + 63) / 64

abbrev pub bytes_of_words : List ℕ → List ℕ
bytes_of_words words = flat_map (to_le_bytes w64) words

-- row r is bit r % 64 of word r / 64, and the bits past the last row are 0
abbrev pub bytes_of_rows : List Bool → List ℕ
bytes_of_rows rows = bytes_of_words (packed (word_count (length rows)) rows)

-- word i of these bytes
abbrev pub word_in : List ℕ → ℕ → ℕ
word_in bytes i = from_le_bytes w64 (take 8 (drop (8 * i) bytes))

-- how many rows a word has
abbrev pub word_rows : ℕ → ℕ → ℕ
word_rows rows word = min (rows - 64 * word) 64

-- the bytes are those of the words from `first` on, and this word has a bit of 1 past the last of so many rows
pub record HasPadBits (rows first : ℕ) (bytes : List ℕ) (word : ℕ) : Type 0 where
  pub from : first ≤ word
  pub within : 8 * (word - first) + 8 ≤ length bytes
  pub past : 2 ^ word_rows rows word ≤ word_in bytes (word - first)

abbrev pub HasNoPadBits : ℕ → ℕ → List ℕ → Type 0
HasNoPadBits rows first bytes = (word : ℕ) → ¬ HasPadBits rows first bytes word

-- ---- laws

-- the bytes of rows have no pad bits
abbrev pub HaveNoPadBits : Type 0
HaveNoPadBits = (rows : List Bool) → HasNoPadBits (length rows) 0 (bytes_of_rows rows)

-- bytes are those of one list of so many rows at most
abbrev pub AreOfOneList : Type 0
AreOfOneList = (rows others : List Bool) → length others ≡ length rows → bytes_of_rows others ≡ bytes_of_rows rows → others ≡ rows

-- and of one, where they are as many as its bytes and have no pad bits
abbrev pub AreOfSomeList : Type 0
AreOfSomeList = (count : ℕ) (bytes : List ℕ) → length bytes ≡ 8 * word_count count → All (λ byte. byte < 256) bytes
    → HasNoPadBits count 0 bytes → (rows : List Bool) × (length rows ≡ count) × (bytes_of_rows rows ≡ bytes)
