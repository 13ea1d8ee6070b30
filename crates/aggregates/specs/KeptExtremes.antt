-- Extremes that are kept from one plane to the next.
use Rattle.std.specs.Prelude.{◌≡◌, ℕ, ◌+◌, ◌*◌, ◌<◌, ◌≤◌, Bool, false, List, length, slice_set, IfSome, IsTrue}
use Rattle.std.specs.declared.option.Option.{Option}
use Rattle.std.specs.Option.{option_map}
use Rattle.known_column.specs.Columns.{KnownColumn}
use Rattle.aggregates.specs.declared.extreme_rows.Candidate.{Candidate}
use Rattle.aggregates.specs.declared.extreme_rows.Extreme.{Extreme}
use Rattle.aggregates.specs.declared.kept_extreme.KeptExtreme.{KeptExtreme}
use Rattle.aggregates.specs.ExtremeRows.{number_at, number_so_far, IsBehind, IsBestAmong, Reaches}
use Rattle.aggregates.specs.Selections.{has_row}

-- outside these blocks of 512 each row of the mask lies behind a number. Where there is no number, none stands there
abbrev pub LieBehind : Extreme → KnownColumn → List Bool → List Bool → Option ℕ → Type 0
LieBehind extreme column mask blocks number =
    (block j : ℕ) → j < 512 → has_row blocks block ≡ false → IsTrue (has_row mask (512 * block + j)) →
    IsBehind extreme number (number_at column (512 * block + j))

-- the number of the row that is kept
abbrev pub kept_number : KnownColumn → KeptExtreme → Option ℕ
kept_number column kept = option_map (number_at column) kept.row

-- a block outside holds no row at which the extreme can be attained, now or after further planes: its rows that may count lie behind a row
-- that surely counts
pub record HoldCandidates (extreme : Extreme) (column : KnownColumn) (may must : List Bool) (kept : KeptExtreme) : Type 0 where
  pub room : length may ≤ 512 * length kept.blocks
  pub tight : 512 * length kept.blocks < length may + 512
  pub counts : IfSome kept.row (λ row. IsTrue (has_row must row))
  pub behind : LieBehind extreme column may kept.blocks (kept_number column kept)

-- of each column and all masks of so many rows
abbrev pub HoldAll : ℕ → KeptExtreme → Type 0
HoldAll rows kept =
    (extreme : Extreme) (column : KnownColumn) (may must : List Bool) → length may ≡ rows → HoldCandidates extreme column may must kept

-- of the mask's rows before a bound this is the best, and it lies as far out as the row that is kept
pub record IsSearched (extreme : Extreme) (column : KnownColumn) (mask : List Bool) (to : ℕ) (kept : KeptExtreme)
    (best : Option Candidate) : Type 0 where
  pub among : IsBestAmong extreme column mask 0 to best
  pub reaches : Reaches extreme (number_so_far best) (kept_number column kept)

-- the row of the best so far
abbrev pub row_so_far : Option Candidate → Option ℕ
row_so_far best = option_map (λ candidate. candidate.row) best

-- the best so far surely counts, its row is kept, and the block is left
pub record HasLeft (must : List Bool) (best : Option Candidate) (block : ℕ) (old new : KeptExtreme) : Type 0 where
  pub counts : IfSome best (λ candidate. IsTrue (has_row must candidate.row))
  pub blocks : new.blocks ≡ slice_set old.blocks block false
  pub row : new.row ≡ row_so_far best
