-- The first rows in an order, as the digits of the sort key part them.
use Rattle.std.specs.Prelude.{◌≡◌, ℕ, zero, suc, ◌+◌, ◌*◌, ◌<◌, ◌≤◌, nat_lt}
use Rattle.std.specs.Prelude.{nat_le, nat_eq, int_lt, Bool, true, false, not, cond, ◌&&◌, ◌||◌}
use Rattle.std.specs.Prelude.{◌==◌, List, length, count_by, slice_index, IsTrue, if◌then◌else◌}
use Rattle.std.specs.Simd.Lanes.{zip2}
use Rattle.interval_calc.specs.Intervals.{Interval}
use Rattle.plane_kernels.specs.Rows.{kept_rows}
use Rattle.query_model.specs.declared.bounds.Nullity.{Nullity}
use Rattle.query_model.specs.declared.bounds.Nullity.TheVariants.{Never, Possibly, Always}
use Rattle.query_model.specs.Truths.{Range}
use Rattle.known_column.specs.Columns.{KnownColumn, digit_of, range_at, rows_of_column}
use Rattle.topk_bounds.specs.declared.cut.Cut.{Cut}
use Rattle.topk_bounds.specs.declared.cut.Share.{Share}
use Rattle.topk_bounds.specs.declared.rivals.Rivals.{Rivals}
use Rattle.topk_bounds.specs.declared.rivals.Rivals.TheVariants.{Must, May}
use Rattle.topk_bounds.specs.Standings.{count_rows, is_in, rivals_of}
use Rattle.topk_bounds.specs.Stopping.{is_reached}

-- ---- digits

-- whether the rows with the digit 1 in plane j come first: downwards, and in the plane that tells null, since null comes last
abbrev pub comes_first : Bool → Bool → ℕ → Bool
comes_first down nullable j = down || (nullable && j == 0)

-- a digit is not the one that comes first
abbrev pub is_later : Bool → Bool → Bool
is_later first digit = if first then not digit else digit

-- the place of a prefix of so many digits by its first ones: less where they come first
abbrev pub place_after : (ℕ → Bool) → ℕ → ℕ → ℕ → ℕ
place_after first read zero p = 0
place_after first read (suc j) p = 2 * place_after first read j p + cond (is_later (first j) (digit_of read j p)) 1 0

-- the place of a row by the first digits of its sort key
abbrev pub place_in : Bool → KnownColumn → ℕ → ℕ → ℕ
place_in down key j r = place_after (comes_first down key.ends.nullable) key.known.read j (slice_index key.known.prefixes r)

-- places of rows by one digit more
abbrev pub next_place : (ℕ → ℕ) → List Bool → Bool → ℕ → ℕ
next_place place plane first r = 2 * place r + cond (is_later first (is_in plane r)) 1 0

abbrev pub differ : Nullity → Interval → Bool
differ Never numbers = int_lt numbers.low numbers.high
differ Possibly numbers = true
differ Always numbers = false

-- the range has more than one value
abbrev pub is_wide : Range → Bool
is_wide range = differ range.null range.numbers

-- ---- rows by their digits

-- each mask has so many rows
pub record HaveRows (rows : ℕ) (cut : Cut) : Type 0 where
  pub before : length cut.before ≡ rows
  pub level : length cut.level ≡ rows
  pub counted : length cut.counted ≡ rows

-- the rows of `among` by their places: before one place and at it, and which rows at it are counted. With the rows wanted of those at it,
-- so many of the counted rows end there
pub record IsCut (counted among : List Bool) (limit : ℕ) (place : ℕ → ℕ) (cut : Cut) (share : Share) : Type 0 where
  pub at : ℕ
  pub rows : HaveRows (length among) cut
  pub before : (r : ℕ) → r < length among → is_in cut.before r ≡ (is_in among r && nat_lt (place r) at)
  pub level : (r : ℕ) → r < length among → is_in cut.level r ≡ (is_in among r && nat_eq (place r) at)
  pub counts : (r : ℕ) → r < length among → is_in cut.counted r ≡ (is_in counted r && nat_eq (place r) at)
  pub ahead : count_rows (length among) (λ r. is_in counted r && nat_lt (place r) at) + share.wanted ≡ limit
  pub there : share.there ≡ count_by (λ b. b) cut.counted
  pub wanted : share.wanted ≤ share.there
  pub some : 0 < share.wanted

-- no digit is chosen: all rows have one place
pub record Begins (counted among : List Bool) (cut : Cut) (there : ℕ) : Type 0 where
  pub rows : HaveRows (length among) cut
  pub before : (r : ℕ) → r < length among → is_in cut.before r ≡ false
  pub level : cut.level ≡ among
  pub counts : cut.counted ≡ counted
  pub total : there ≡ count_by (λ b. b) counted

-- the digit that comes first is chosen: no row more comes before it
pub record KeepsFirsts (plane : List Bool) (first : Bool) (old new : Cut) : Type 0 where
  pub before : new.before ≡ old.before
  pub level : new.level ≡ kept_rows first old.level plane
  pub counted : new.counted ≡ kept_rows first old.counted plane

-- the other digit is chosen: the rows with the first come before it
pub record PassesFirsts (plane : List Bool) (first : Bool) (old new : Cut) : Type 0 where
  pub level : new.level ≡ kept_rows (not first) old.level plane
  pub counted : new.counted ≡ kept_rows (not first) old.counted plane
  pub before : new.before ≡ zip2 (λ a b. a && not b) (zip2 (λ a b. a || b) old.before old.level) new.level

-- one digit more is chosen
abbrev pub Narrows : List Bool → Bool → Cut → Share → Cut → Share → Type 0
Narrows plane first old share new narrower =
    (counted among : List Bool) (limit : ℕ) (place : ℕ → ℕ) → length among ≡ length plane → IsCut counted among limit place old share →
    IsCut counted among limit (next_place place plane first) new narrower

-- ---- rows with all digits

-- the rows at the level and those counted there have one range
abbrev pub HaveOneRange : KnownColumn → Cut → Type 0
HaveOneRange key cut =
    (x y : ℕ) → x < rows_of_column key → y < rows_of_column key →
    IsTrue (is_in cut.level x) → IsTrue (is_in cut.counted y) → range_at key x ≡ range_at key y

-- of rows of one range that has more values none must come before another, and each may come before each other
abbrev pub are_wanted : Rivals → Share → Bool
are_wanted Must share = true
are_wanted May share = nat_le share.there share.wanted

-- the rows before the cut, and the wanted ones of its level
abbrev pub Settles : Rivals → KnownColumn → Share → Cut → List Bool → Type 0
Settles rivals key share cut found =
    (x : ℕ) → x < rows_of_column key →
    is_in found x ≡ (is_in cut.before x
    || (is_in cut.level x
    && (if is_wide (range_at key x) then are_wanted rivals share else is_reached share.wanted cut.counted x)))

-- ---- the whole

-- rows that may come before one another and are told apart are among those that are counted
abbrev pub AreNested : Rivals → List Bool → List Bool → Type 0
AreNested Must counted among = Unit {0}
AreNested May counted among = (r : ℕ) → IsTrue (is_in among r) → IsTrue (is_in counted r)

-- these are the rows of `among` that fewer counted rows come before
abbrev pub FindsFirst : Rivals → Bool → KnownColumn → List Bool → List Bool → ℕ → List Bool → Type 0
FindsFirst rivals down key counted among limit found =
    (x : ℕ) → x < rows_of_column key → is_in found x ≡ (is_in among x && nat_lt (rivals_of rivals down key counted x) limit)
