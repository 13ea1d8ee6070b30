-- What a known column keeps: the planes that were read, and marks of rows that follow from them.
use Rattle.std.specs.Prelude.{◌≡◌, ◌↔◌, ℕ, ◌+◌, ◌*◌, ◌≤◌, ◌==◌, nat_le, nat_lt, cond}
use Rattle.std.specs.Prelude.{slice_index_or, Bool, true, false, not, ◌&&◌, List, length, map, replicate, take, if◌then◌else◌}
use Rattle.std.specs.Prelude.{IfSome, IsNone, IsSome, IsSomeAnd}
use Rattle.std.specs.declared.option.Option.{Option}
use Rattle.std.specs.declared.option.Option.TheVariants.{None, Some}
use Rattle.std.specs.List.{All, fold}
use Rattle.std.specs.Simd.Lanes.{zip2}
use Rattle.plane_kernels.specs.Rows.{kept_rows, less_rows, greater_rows}
use Rattle.daq_table.specs.declared.head.Ends.{Ends}
use Rattle.daq_table.specs.Tables.{width as width_of, planes as planes_of}
use Rattle.query_model.specs.Knowledge.{IsLegal, longer, prefix_of}
use Rattle.known_column.specs.Columns.{HasZero, KnownColumn, block_rows, count_in_block, rows_where}
use Rattle.known_column.specs.Columns.{is_above_zero, is_at_top, is_below_zero, is_level_zero, zero_cell}
use Rattle.known_column.specs.declared.marks.Marks.{Marks}
use Rattle.known_column.specs.declared.marks.Signs.{Signs}

-- the prefixes of so many rows after these planes
abbrev pub prefixes_after : ℕ → List (List Bool) → List ℕ
prefixes_after rows planes = fold longer (replicate rows 0) planes

-- the digits of one row in these planes, as one number
abbrev pub prefix_in : ℕ → List (List Bool) → ℕ
prefix_in row planes = fold (λ n plane. 2 * n + cond (slice_index_or plane row false) 1 0) 0 planes

-- the digits of a block's rows, of which there are so many, in these planes, as numbers
abbrev pub block_after : ℕ → ℕ → List (List Bool) → List ℕ
block_after block count planes = fold (λ numbers plane. longer numbers (block_rows block plane)) (replicate count 0) planes

-- these are the digits of the block's rows in planes of so many rows; what stands behind the last row is of no meaning
abbrev pub AreBlockDigits : ℕ → List (List Bool) → List ℕ → Type 0
AreBlockDigits block planes numbers =
    (rows : ℕ) → All (λ plane. length plane ≡ rows) planes →
    take (count_in_block block rows) numbers ≡ block_after block (count_in_block block rows) planes

-- the prefix is at least that of the least number
abbrev pub is_number : Ends → ℕ → ℕ → Bool
is_number ends read prefix = nat_le (prefix_of ends read (Some 0)) prefix

-- the column is not nullable or its first plane is read, which told null
abbrev pub tells_null : Ends → ℕ → Bool
tells_null ends read = not (ends.nullable && read == 0)

-- these are the rows below 0, level with it and above, of those with these prefixes
pub record AreSigns (ends : Ends) (read : ℕ) (prefixes : List ℕ) (signs : Signs) : Type 0 where
  pub below : signs.below ≡ map (λ p. is_number ends read p && nat_lt p (prefix_of ends read (zero_cell ends))) prefixes
  pub level : signs.level ≡ map (is_level_zero ends read) prefixes
  pub above : signs.above ≡ map (is_above_zero ends read) prefixes

-- the marks are those of the rows with these prefixes; signs are kept where the column may have 0, and nowhere else
pub record AreMarks (ends : Ends) (read : ℕ) (prefixes : List ℕ) (marks : Marks) : Type 0 where
  pub at_top : marks.at_top ≡ map (is_at_top ends read) prefixes
  pub sure : marks.sure ≡ map (λ p. tells_null ends read && is_number ends read p) prefixes
  pub possible : marks.possible ≡ map (is_number ends read) prefixes
  pub signs : IfSome marks.signs (AreSigns ends read prefixes)
  pub needed : IsSome marks.signs ↔ HasZero ends

-- what is known after so many of these planes
abbrev pub known_by : Ends → ℕ → List (List Bool) → Marks → KnownColumn
known_by ends read planes marks =
    record { ends = ends; known = record { read = read; prefixes = prefixes_after (length marks.at_top) (take read planes) } }

-- what each known column keeps
pub record IsKept (ends : Ends) (width read : ℕ) (planes : List (List Bool)) (marks : Marks) : Type 0 where
  pub digits : width ≡ width_of ends
  pub few_digits : width ≤ 64
  pub room : length planes ≡ planes_of ends
  pub some_read : read ≤ planes_of ends
  pub few_rows : length marks.at_top ≤ 16777216
  pub rows : All (λ plane. length plane ≡ length marks.at_top) planes
  pub legal : All (IsLegal ends read) (prefixes_after (length marks.at_top) (take read planes))
  pub marked : AreMarks ends read (prefixes_after (length marks.at_top) (take read planes)) marks

-- the rows that may have a bit of 1 next, where top's next bit is this one
abbrev pub allowed_rows : Bool → List Bool → List Bool → List Bool
allowed_rows top possible at_top = if top then possible else zip2 (λ p t. p && not t) possible at_top

-- all signs are of so many rows
pub record HaveSigns (rows : ℕ) (signs : Signs) : Type 0 where
  pub below : length signs.below ≡ rows
  pub level : length signs.level ≡ rows
  pub above : length signs.above ≡ rows

-- all marks are of so many rows
pub record HaveRows (rows : ℕ) (marks : Marks) : Type 0 where
  pub at_top : length marks.at_top ≡ rows
  pub sure : length marks.sure ≡ rows
  pub possible : length marks.possible ≡ rows
  pub signs : IfSome marks.signs (HaveSigns rows)

-- the signs after a plane, whether it is the one that tells null, and the next bit of 0
pub record FollowSigns (first zero : Bool) (old : Signs) (bits : List Bool) (new : Signs) : Type 0 where
  pub below : new.below ≡ (if first then old.below else less_rows zero old.below old.level bits)
  pub level : new.level ≡ kept_rows zero old.level bits
  pub above : new.above ≡ (if first then old.above else greater_rows zero old.above old.level bits)

-- the same where they are kept
abbrev pub FollowAnySigns : Bool → Bool → Option Signs → List Bool → Option Signs → Type 0
FollowAnySigns first zero None bits new = IsNone new
FollowAnySigns first zero (Some old) bits new = IsSomeAnd new (FollowSigns first zero old bits)

-- the marks after a plane, whether it is the one that tells null, and the next bits of top and 0
pub record Follows (first top zero : Bool) (old : Marks) (bits : List Bool) (new : Marks) : Type 0 where
  pub at_top : new.at_top ≡ kept_rows top old.at_top bits
  pub sure : new.sure ≡ (if first then bits else old.sure)
  pub possible : new.possible ≡ (if first then bits else old.possible)
  pub signs : FollowAnySigns first zero old.signs bits new.signs

-- the signs of so many rows of which nothing is read
pub record StartSigns (rows : ℕ) (signs : Signs) : Type 0 where
  pub below : signs.below ≡ replicate rows false
  pub level : signs.level ≡ replicate rows true
  pub above : signs.above ≡ replicate rows false

-- the marks of so many rows of which nothing is read
pub record StartsWith (ends : Ends) (rows : ℕ) (marks : Marks) : Type 0 where
  pub at_top : marks.at_top ≡ replicate rows true
  pub sure : marks.sure ≡ replicate rows (not ends.nullable)
  pub possible : marks.possible ≡ replicate rows true
  pub signs : IfSome marks.signs (StartSigns rows)
  pub needed : IsSome marks.signs ↔ HasZero ends

-- these are the rows below 0, level with it and above, of this column
pub record TellSigns (column : KnownColumn) (signs : Signs) : Type 0 where
  pub below : signs.below ≡ rows_where is_below_zero column
  pub level : signs.level ≡ rows_where is_level_zero column
  pub above : signs.above ≡ rows_where is_above_zero column
