-- Rows parted by how their prefixes compare with the prefix of a number.
use Rattle.std.specs.Prelude.{◌≡◌, ℕ, ◌+◌, ◌*◌, ◌<◌, ℤ, ◌-ℤ◌, ◌≤ℤ◌, ◌<ℤ◌, ◌==◌}
use Rattle.std.specs.Prelude.{nat_lt, nat_abs, Bool, true, false, not, ◌&&◌, ◌||◌, List, length, slice_index_or, if◌then◌else◌}
use Rattle.std.specs.declared.option.Option.TheVariants.{Some}
use Rattle.std.specs.Simd.Lanes.{zip2}
use Rattle.plane_kernels.specs.Rows.{kept_rows}
use Rattle.daq_table.specs.declared.head.Ends.{Ends}
use Rattle.daq_table.specs.Tables.{Cell, code, planes as planes_of}
use Rattle.query_model.specs.declared.bounds.Truth.{Truth}
use Rattle.query_model.specs.declared.query.Comparison.{Comparison}
use Rattle.query_model.specs.declared.query.Comparison.TheVariants.{Eq, Ne, Lt, Le, Gt, Ge}
use Rattle.query_model.specs.Knowledge.{prefix_of}
use Rattle.query_model.specs.Meaning.{compares}
use Rattle.query_model.specs.Truths.{is_false, is_true, truth_over}
use Rattle.known_column.specs.Columns.{KnownColumn, numbers_at, read_further, rows_of_column, rows_where}
use Rattle.kleene_filter.specs.Blocks.{bit_in}
use Rattle.kleene_filter.specs.declared.parted.Parted.{Parted}
use Rattle.kleene_filter.specs.declared.parted.Sides.{Sides}
use Rattle.kleene_filter.specs.declared.parted.Sides.TheVariants as sides
use Rattle.kleene_filter.specs.declared.parted.BlockSides.{BlockSides}

-- the cell of a number of the column
abbrev pub cell_with : ℤ → Ends → Cell
cell_with value ends = Some (nat_abs (value -ℤ ends.base))

-- the prefix is less than that of the number, the same, or greater
abbrev pub is_less : ℤ → Ends → ℕ → ℕ → Bool
is_less value ends read prefix = nat_lt prefix (prefix_of ends read (cell_with value ends))

abbrev pub is_level : ℤ → Ends → ℕ → ℕ → Bool
is_level value ends read prefix = prefix == prefix_of ends read (cell_with value ends)

abbrev pub is_greater : ℤ → Ends → ℕ → ℕ → Bool
is_greater value ends read prefix = nat_lt (prefix_of ends read (cell_with value ends)) prefix

-- a lesser number compares so, a greater one does
abbrev pub less_holds : Comparison → Bool
less_holds Eq = false
less_holds Ne = true
less_holds Lt = true
less_holds Le = true
less_holds Gt = false
less_holds Ge = false

abbrev pub greater_holds : Comparison → Bool
greater_holds Eq = false
greater_holds Ne = true
greater_holds Lt = false
greater_holds Le = false
greater_holds Gt = true
greater_holds Ge = true

-- all numbers of the prefix compare so with the number, whose own prefix is less or greater
abbrev pub is_passed : Comparison → ℤ → Ends → ℕ → ℕ → Bool
is_passed op value ends read prefix =
    (less_holds op && is_less value ends read prefix) || (greater_holds op && is_greater value ends read prefix)

-- the rows whose digit is not the number's compare so
abbrev pub others_hold : Comparison → Bool → Bool
others_hold op digit = if digit then less_holds op else greater_holds op

-- the rows that passed, and where the others do, those of the second mask whose bit is not this one
abbrev pub passed_rows : Bool → Bool → List Bool → List Bool → List Bool → List Bool
passed_rows pass bit passed equal plane = if pass then zip2 (λ a b. a || b) passed (kept_rows (not bit) equal plane) else passed

-- this is what is known of the test at each of these rows
abbrev pub IsTruthAt : KnownColumn → (ℤ → Bool) → List Bool → Truth → Type 0
IsTruthAt column test rows truth =
    (row : ℕ) → row < rows_of_column column → slice_index_or rows row false ≡ true → truth_over (numbers_at column row) test ≡ truth

-- the number lies between the column's ends
pub record IsBetweenEnds (ends : Ends) (value : ℤ) : Type 0 where
  pub above : ends.base ≤ℤ value
  pub below : value ≤ℤ ends.top

-- the rows of a column are parted by their prefixes: those that passed, those with the number's own prefix, where this is known of the
-- comparison, and those that failed, which are the others
pub record IsParted (column : KnownColumn) (op : Comparison) (value : ℤ) (parted : Parted) : Type 0 where
  pub between : IsBetweenEnds column.ends value
  pub code : parted.code ≡ code column.ends (cell_with value column.ends)
  pub passed : parted.passed ≡ rows_where (is_passed op value) column
  pub equal : parted.equal ≡ rows_where (is_level value) column
  pub at_equal : IsTruthAt column (λ x. compares op x value) parted.equal parted.at_equal

-- all numbers of the column are less than the number, or greater, or its rows are parted
abbrev pub HasSides : KnownColumn → Comparison → ℤ → Sides → Type 0
HasSides column op value sides.AllLess = column.ends.top <ℤ value
HasSides column op value (sides.Parted parted) = IsParted column op value parted
HasSides column op value sides.AllGreater = value <ℤ column.ends.base

-- the column was read further by these bits, the next plane of those it has
pub record ReadFurther (before : KnownColumn) (bits : List Bool) (column : KnownColumn) : Type 0 where
  pub unread : before.known.read < planes_of before.ends
  pub rows : length bits ≡ rows_of_column before
  pub is : column ≡ read_further before bits

-- it was so before the column was read further
pub record Had (Holds : KnownColumn → Type 0) (column : KnownColumn) (bits : List Bool) : Type 0 where
  pub before : KnownColumn
  pub had : Holds before
  pub further : ReadFurther before bits column

-- ---- what the sides tell of a comparison

-- it may hold, may fail, at a row that passed or not, and has the number's own prefix or not
abbrev pub holds_at : Truth → Bool → Bool → Bool
holds_at at_equal passed equal = passed || (not (is_false at_equal) && equal)

abbrev pub fails_at : Truth → Bool → Bool → Bool
fails_at at_equal passed equal = (not passed && not equal) || (not (is_true at_equal) && equal)

-- the row is one of the masks, if there are masks
abbrev pub HasRow : ℕ → Sides → Type 0
HasRow row sides.AllLess = Unit {0}
HasRow row (sides.Parted parted) = (row < length parted.passed) × (row < length parted.equal)
HasRow row sides.AllGreater = Unit {0}

-- the row passed, has the number's own prefix
abbrev pub passed_at : Comparison → Sides → ℕ → Bool
passed_at op sides.AllLess row = less_holds op
passed_at op (sides.Parted parted) row = slice_index_or parted.passed row false
passed_at op sides.AllGreater row = greater_holds op

abbrev pub equal_at : Sides → ℕ → Bool
equal_at sides.AllLess row = false
equal_at (sides.Parted parted) row = slice_index_or parted.equal row false
equal_at sides.AllGreater row = false

-- what is known of the comparison at the rows of the number's own prefix
abbrev pub IsAtEqual : Sides → Truth → Type 0
IsAtEqual sides.AllLess truth = Unit {0}
IsAtEqual (sides.Parted parted) truth = truth ≡ parted.at_equal
IsAtEqual sides.AllGreater truth = Unit {0}

-- the sides of the rows of a block
pub record AreBlockSides (op : Comparison) (sides : Sides) (block : ℕ) (own : BlockSides) : Type 0 where
  pub passed : (r : ℕ) → r < 512 → HasRow (512 * block + r) sides → bit_in r own.passed ≡ passed_at op sides (512 * block + r)
  pub equal : (r : ℕ) → r < 512 → HasRow (512 * block + r) sides → bit_in r own.equal ≡ equal_at sides (512 * block + r)
  pub at_equal : IsAtEqual sides own.at_equal
