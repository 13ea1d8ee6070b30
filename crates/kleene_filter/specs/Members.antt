-- Rows at which a column's number may be one of a list.
use Rattle.std.specs.Prelude.{◌≡◌, ℕ, ◌+◌, ◌*◌, ◌<◌, ℤ, Bool}
use Rattle.std.specs.Prelude.{true, false, not, ◌&&◌, List, length, slice_index_or}
use Rattle.std.specs.List.{list_any, All}
use Rattle.std.specs.Ordering.{int_eq}
use Rattle.query_model.specs.declared.bounds.Truth.{Truth}
use Rattle.query_model.specs.Meaning.{among}
use Rattle.query_model.specs.Truths.{is_false, is_true}
use Rattle.known_column.specs.Columns.{KnownColumn, rows_where}
use Rattle.kleene_filter.specs.declared.members.Level.{Level}
use Rattle.kleene_filter.specs.declared.members.BlockMembers.{BlockMembers}
use Rattle.kleene_filter.specs.Blocks.{bit_in}
use Rattle.kleene_filter.specs.Parted.{is_level, IsBetweenEnds, IsTruthAt}

-- the rows with the prefix of a number, and what is known there of whether the row's number is listed
pub record IsLevel (column : KnownColumn) (values : List ℤ) (level : Level) : Type 0 where
  pub between : IsBetweenEnds column.ends level.number
  pub rows : level.rows ≡ rows_where (is_level level.number) column
  pub truth : IsTruthAt column (among values) level.rows level.truth

-- one of the levels is that of the number
abbrev pub has_level : List Level → ℤ → Bool
has_level levels number = list_any (λ (level : Level). int_eq number level.number) levels

-- each listed number that the column may have has its level
pub record HasLevels (column : KnownColumn) (values : List ℤ) (levels : List Level) : Type 0 where
  pub each : All (IsLevel column values) levels
  pub has : (number : ℤ) → among values number ≡ true → IsBetweenEnds column.ends number → has_level levels number ≡ true

-- ---- rows of a block

-- the row is one of each level's mask
abbrev pub HaveRow : ℕ → List Level → Type 0
HaveRow row levels = All (λ (level : Level). row < length level.rows) levels

-- the row is one of the level's, and what is known there passes the test
abbrev pub is_at_level : (Truth → Bool) → ℕ → Level → Bool
is_at_level test row level = test level.truth && slice_index_or level.rows row false

-- the row's number may be listed, and surely is
abbrev pub may_be_member : ℕ → Level → Bool
may_be_member = is_at_level (λ truth. not (is_false truth))

abbrev pub must_be_member : ℕ → Level → Bool
must_be_member = is_at_level is_true

-- the bits of a row of a block, by one level and by all
pub record IsBlockMember (level : Level) (block row : ℕ) (rows : BlockMembers) : Type 0 where
  pub may : bit_in row rows.may ≡ may_be_member (512 * block + row) level
  pub must : bit_in row rows.must ≡ must_be_member (512 * block + row) level

pub record AreBlockMembers (levels : List Level) (block row : ℕ) (rows : BlockMembers) : Type 0 where
  pub may : bit_in row rows.may ≡ list_any (may_be_member (512 * block + row)) levels
  pub must : bit_in row rows.must ≡ list_any (must_be_member (512 * block + row)) levels
