-- The rows of a mask whose numbers are least or greatest, as far as their digits were read.
use Rattle.std.specs.Prelude.{◌≡◌, ℕ, ◌+◌, ◌*◌, ◌/◌, ◌%◌, ◌^◌, ◌<◌, ◌≤◌, ◌==◌}
use Rattle.std.specs.Prelude.{◌↔◌, nat_lt, Bool, false, not, ◌&&◌, cond, List, slice_index, IsFalse, IsTrue}
use Rattle.std.specs.Int.{bit_at}
use Rattle.std.specs.declared.option.Option.{Option}
use Rattle.std.specs.declared.option.Option.TheVariants.{Some, None}
use Rattle.std.specs.Option.{option_map}
use Rattle.query_model.specs.declared.query.ItemKind.{ItemKind}
use Rattle.query_model.specs.declared.query.ItemKind.TheVariants.{Min, Max}
use Rattle.known_column.specs.Columns.{KnownColumn, number_of}
use Rattle.aggregates.specs.declared.extreme_rows.Candidate.{Candidate}
use Rattle.aggregates.specs.declared.extreme_rows.Extreme.{Extreme}
use Rattle.aggregates.specs.declared.extreme_rows.Extreme.TheVariants.{Least, Greatest}
use Rattle.aggregates.specs.Selections.{has_row}

-- the aggregate that asks for it
abbrev pub kind_of : Extreme → ItemKind
kind_of Least = Min
kind_of Greatest = Max

-- the first number is the extreme one of both, or they are the same
abbrev pub IsAsFar : Extreme → ℕ → ℕ → Type 0
IsAsFar Least a b = a ≤ b
IsAsFar Greatest a b = b ≤ a

-- the first number lies further out
abbrev pub is_further : Extreme → ℕ → ℕ → Bool
is_further Least a b = nat_lt a b
is_further Greatest a b = nat_lt b a

-- the digits of a row's number that were read, as one number
abbrev pub number_at : KnownColumn → ℕ → ℕ
number_at column row = number_of column.ends column.known.read (slice_index column.known.prefixes row)

-- a row of the mask, with its number; none of the mask's rows between two bounds lies further out
pub record IsBestOf (extreme : Extreme) (column : KnownColumn) (mask : List Bool) (from to : ℕ) (best : Candidate) : Type 0 where
  pub has : IsTrue (has_row mask best.row)
  pub number : best.number ≡ number_at column best.row
  pub furthest : (r : ℕ) → from ≤ r → r < to → IsTrue (has_row mask r) → IsAsFar extreme best.number (number_at column r)

-- the same, or the mask has no row there
abbrev pub IsBestAmong : Extreme → KnownColumn → List Bool → ℕ → ℕ → Option Candidate → Type 0
IsBestAmong extreme column mask from to None = (r : ℕ) → from ≤ r → r < to → has_row mask r ≡ false
IsBestAmong extreme column mask from to (Some best) = IsBestOf extreme column mask from to best

-- the number of the best so far
abbrev pub number_so_far : Option Candidate → Option ℕ
number_so_far best = option_map (λ candidate. candidate.number) best

-- a number lies behind the best one. Where there is none, no number does
abbrev pub IsBehind : Extreme → Option ℕ → ℕ → Type 0
IsBehind extreme None n = ⊥
IsBehind extreme (Some best) n = IsTrue (is_further extreme best n)

-- the best number lies as far out as an earlier one, if there was one
abbrev pub Reaches : Extreme → Option ℕ → Option ℕ → Type 0
Reaches extreme best None = Unit {0}
Reaches extreme None (Some earlier) = ⊥
Reaches extreme (Some best) (Some earlier) = IsAsFar extreme best earlier

-- a row of the mask of whose rows none lies further out
pub record IsExtreme (extreme : Extreme) (column : KnownColumn) (mask : List Bool) (row : ℕ) : Type 0 where
  pub has : IsTrue (has_row mask row)
  pub furthest : (r : ℕ) → IsTrue (has_row mask r) → IsAsFar extreme (number_at column row) (number_at column r)

-- the same, or the mask has no row
abbrev pub IsExtremeRow : Extreme → KnownColumn → List Bool → Option ℕ → Type 0
IsExtremeRow extreme column mask None = (r : ℕ) → has_row mask r ≡ false
IsExtremeRow extreme column mask (Some row) = IsExtreme extreme column mask row

-- ---- candidates of a block of 512 rows, as the bits of eight words

abbrev pub has_bit : ℕ → ℕ → Bool
has_bit word i = bit_at word i == 1

-- the words have row i of the block
abbrev pub has_place : List ℕ → ℕ → Bool
has_place words i = has_bit (slice_index words (i / 64)) (i % 64)

-- the words have no row
abbrev pub AreZero : List ℕ → Type 0
AreZero words = (k : ℕ) → slice_index words k ≡ 0

-- the words have the mask's rows of a block, and no others
abbrev pub AreBlockRows : List Bool → ℕ → List ℕ → Type 0
AreBlockRows mask block words = (i : ℕ) → i < 512 → has_place words i ≡ has_row mask (512 * block + i)

-- the extreme digit of candidates, of which these have 0 and these have 1
abbrev pub IsExtremeDigit : Extreme → List ℕ → List ℕ → Bool → Type 0
IsExtremeDigit Least zeros ones digit = IsTrue digit ↔ AreZero zeros
IsExtremeDigit Greatest zeros ones digit = IsFalse digit ↔ AreZero ones

-- some candidates are left: those that have the extreme digit
pub record IsNarrowed (extreme : Extreme) (old digits new : List ℕ) (digit : Bool) : Type 0 where
  pub some : ¬ AreZero new
  pub kept : (i : ℕ) → i < 512 → has_place new i ≡ (has_place old i && cond digit (has_place digits i) (not (has_place digits i)))
  pub furthest : (i : ℕ) → i < 512 → IsTrue (has_place old i) → IsAsFar extreme (cond digit 1 0) (cond (has_place digits i) 1 0)

-- the best so far lies further out than every number that begins with these digits and has so many more
abbrev pub is_ahead : Extreme → Option Candidate → ℕ → ℕ → Bool
is_ahead extreme None digits left = false
is_ahead extreme (Some best) digits left = is_further extreme (best.number / 2 ^ left) digits
