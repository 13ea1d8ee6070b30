-- Sums of products that are kept from one plane to the next.
use Rattle.std.specs.Prelude.{◌≡◌, ℕ, ◌+◌, ◌-◌, ◌*◌, ◌/◌, ◌^◌, ◌≤◌, ◌<◌, ◌==◌, ◌&&◌, ◌||◌}
use Rattle.std.specs.Prelude.{ℤ, pos, ◌*ℤ◌, Bool, true, false, cond, List, length, IsTrue, IfSome, None, Some, get_or}
use Rattle.std.specs.declared.option.Option.{Option}
use Rattle.std.specs.Int.{int_wrap, w128}
use Rattle.std.specs.List.{All}
use Rattle.std.specs.Simd.Lanes.{zip2}
use Rattle.daq_table.specs.Tables.{ends_at, planes}
use Rattle.aggregates.specs.declared.ends.End.{End}
use Rattle.aggregates.specs.declared.ends.End.TheVariants.{Low, High}
use Rattle.aggregates.specs.ExtremeRows.{number_at}
use Rattle.known_column.specs.Columns.{is_at_top, rows_where}
use Rattle.known_column.specs.KnownTables.{KnownTable, column_at}
use Rattle.query_model.specs.Knowledge.{known_at}
use Rattle.query_model.specs.Queries.{Term, Column, Literal, Add, Sub, Mul, term_of}
use Rattle.product_sums.specs.declared.factors.Factor.{Factor}
use Rattle.product_sums.specs.declared.factors.PartEnds.{PartEnds}
use Rattle.product_sums.specs.declared.pair_ends.Clipped.{Clipped}
use Rattle.product_sums.specs.declared.kept_column.KeptColumns.{KeptColumns}
use Rattle.product_sums.specs.declared.kept_column.Third.{Third}
use Rattle.product_sums.specs.declared.kept_pair.KeptPair.{KeptPair}
use Rattle.product_sums.specs.declared.kept_planes.Kept.{Kept}
use Rattle.product_sums.specs.declared.kept_product.KeptEnds.{KeptEnds}
use Rattle.product_sums.specs.declared.kept_product.KeptProduct.{KeptProduct}
use Rattle.product_sums.specs.declared.linear_sums.ColumnSums.{ColumnSums}
use Rattle.product_sums.specs.declared.pair_sums.Pair.{Pair}
use Rattle.product_sums.specs.declared.pair_sums.PairSums.{PairSums}
use Rattle.product_sums.specs.ColumnEnds.{weight_of_top}
use Rattle.product_sums.specs.Fetched.{first_digit, ones_of}
use Rattle.product_sums.specs.Products.{other_end, sum_over, term_end, HasValues, IsProductSum}

-- ---- a product of a column and another part

-- the expression is this column
abbrev pub is_column_at : ℕ → Term → Bool
is_column_at c (Column k) = k == c
is_column_at c (Literal n) = false
is_column_at c (Add a b) = false
is_column_at c (Sub a b) = false
is_column_at c (Mul a b) = false

-- the expression is a product, of which one part is this column
abbrev pub IsProductWith : ℕ → Term → Type 0
IsProductWith c (Column k) = ⊥
IsProductWith c (Literal n) = ⊥
IsProductWith c (Add a b) = ⊥
IsProductWith c (Sub a b) = ⊥
IsProductWith c (Mul a b) = IsTrue (is_column_at c a || is_column_at c b)

-- its other part
abbrev pub other_part : ℕ → Term → Term
other_part c (Column k) = Column k
other_part c (Literal n) = Literal n
other_part c (Add a b) = Add a b
other_part c (Sub a b) = Sub a b
other_part c (Mul a b) = cond (is_column_at c a) b a

-- the expression adds and takes off numbers and this column alone
abbrev pub IsLinear : ℕ → Term → Type 0
IsLinear c (Column k) = k ≡ c
IsLinear c (Literal n) = Unit {0}
IsLinear c (Add a b) = IsLinear c a × IsLinear c b
IsLinear c (Sub a b) = IsLinear c a × IsLinear c b
IsLinear c (Mul a b) = ⊥

-- a product of a product with a column and of a part that is linear in a third column: the former
abbrev pub inner_part : Option Third → Term → Term
inner_part None term = term
inner_part (Some third) (Column k) = Column k
inner_part (Some third) (Literal n) = Literal n
inner_part (Some third) (Add a b) = Add a b
inner_part (Some third) (Sub a b) = Sub a b
inner_part (Some third) (Mul a b) = cond third.is_second a b

-- and the latter
abbrev pub outer_part : Third → Term → Term
outer_part third (Column k) = Column k
outer_part third (Literal n) = Literal n
outer_part third (Add a b) = Add a b
outer_part third (Sub a b) = Sub a b
outer_part third (Mul a b) = cond third.is_second b a

-- the table has the third column, and the expression is such a product
abbrev pub IsThird : KnownTable → Third → Term → Type 0
IsThird table third (Column k) = ⊥
IsThird table third (Literal n) = ⊥
IsThird table third (Add a b) = ⊥
IsThird table third (Sub a b) = ⊥
IsThird table third (Mul a b) = (third.column < length table.frame.columns) × IsLinear third.column (outer_part third (Mul a b))

-- an end of an expression at a row
abbrev pub factor_end : KnownTable → Factor → ℕ → ℤ
factor_end table f row = term_end table f.end (term_of f.term.now) row

-- an end of a product with a column at a row, by ends of both parts
abbrev pub inner_end : KnownTable → ℕ → PartEnds → ℕ → ℤ
inner_end table c parts row = term_end table parts.column (Column c) row *ℤ factor_end table parts.other row

-- the expression can be multiplied with the numbers of a column at the rows of a mask
pub record CanFollow (table : KnownTable) (mask : List Bool) (c : ℕ) (other : Term) : Type 0 where
  pub rows : length mask ≡ table.frame.rows
  pub there : c < length table.frame.columns
  pub sums : IsProductSum table.frame other
  pub values : HasValues table other mask

-- so at a mask's rows, and the other part is linear in the second column
pub record CanFollowPair (table : KnownTable) (mask : List Bool) (pair : Pair) (parts : PartEnds) : Type 0 where
  pub linear : IsLinear pair.second (term_of parts.other.term.now)
  pub follow : CanFollow table mask pair.first (term_of parts.other.term.now)
  pub values : HasValues table (Column pair.first) mask

-- there is an end of a third part where there is a third column, and the part is linear in it and has values
abbrev pub AreOuter : KnownTable → List Bool → Option Third → Option Factor → Type 0
AreOuter table mask None None = Unit {0}
AreOuter table mask None (Some outer) = ⊥
AreOuter table mask (Some third) None = ⊥
AreOuter table mask (Some third) (Some outer) =
    (third.column < length table.frame.columns) × IsLinear third.column (term_of outer.term.now)
    × HasValues table (term_of outer.term.now) mask

-- ---- what planes give

-- the number that a column's digits make but for so many at the end, times a number of each row, added up over a mask's rows
abbrev pub first_sum : KnownTable → List Bool → ℕ → (ℕ → ℤ) → ℕ → ℤ
first_sum table mask c f k = sum_over mask (λ r. pos (number_at (column_at table c) r / 2 ^ k) *ℤ f r)

-- the number that the first planes of a column make at a row, so many of them
abbrev pub first_number : KnownTable → ℕ → ℕ → ℕ → ℕ
first_number table c read row = number_at (column_at table c) row / 2 ^ ((known_at table.known c).read - read)

-- the number that all planes make
abbrev pub whole_number : KnownTable → ℕ → ℕ → ℤ
whole_number table c row = pos (first_number table c (known_at table.known c).read row)

-- the table has both columns
pub record IsPair (table : KnownTable) (pair : Pair) : Type 0 where
  pub first : pair.first < length table.frame.columns
  pub second : pair.second < length table.frame.columns

-- the sums are those of the numbers that the first planes of two columns make, over the rows of a mask
pub record ArePairSums (table : KnownTable) (mask : List Bool) (pair : Pair) (sums : PairSums) : Type 0 where
  pub rows : length mask ≡ table.frame.rows
  pub first_read : sums.first_read ≤ (known_at table.known pair.first).read
  pub second_read : sums.second_read ≤ (known_at table.known pair.second).read
  pub first : sums.first ≡ int_wrap w128 (sum_over mask (λ r. pos (first_number table pair.first sums.first_read r)))
  pub second : sums.second ≡ int_wrap w128 (sum_over mask (λ r. pos (first_number table pair.second sums.second_read r)))
  pub both : sums.both
      ≡ int_wrap w128 (sum_over mask (λ r. pos (first_number table pair.first sums.first_read r)
      *ℤ pos (first_number table pair.second sums.second_read r)))

-- and all planes that were read are in them
pub record AreReadOn (table : KnownTable) (mask : List Bool) (pair : Pair) (sums : PairSums) : Type 0 where
  pub sums_are : ArePairSums table mask pair sums
  pub all_first : sums.first_read ≡ (known_at table.known pair.first).read
  pub all_second : sums.second_read ≡ (known_at table.known pair.second).read

-- the sums are those of the numbers that all planes of two columns make, over rows of a block
pub record AreBlockSums (table : KnownTable) (block : ℕ) (rows : List Bool) (pair : Pair) (sums : PairSums) : Type 0 where
  pub first : sums.first ≡ int_wrap w128 (sum_over rows (λ i. whole_number table pair.first (512 * block + i)))
  pub second : sums.second ≡ int_wrap w128 (sum_over rows (λ i. whole_number table pair.second (512 * block + i)))
  pub both : sums.both
      ≡ int_wrap w128 (sum_over rows (λ i. whole_number table pair.first (512 * block + i)
      *ℤ whole_number table pair.second (512 * block + i)))

-- the same the other way round
abbrev pub turned_pair : Pair → Pair
turned_pair pair = record { first = pair.second; second = pair.first }

abbrev pub turned_sums : PairSums → PairSums
turned_sums sums = record {
  first_read = sums.second_read;
  second_read = sums.first_read;
  first = sums.second;
  second = sums.first;
  both = sums.both;
}

-- ---- ends by what planes give

-- the high end
abbrev pub is_high : End → Bool
is_high Low = false
is_high High = true

-- an end of an expression takes the high end of a column, which may be clipped at its top
abbrev pub is_clipped : End → Term → Bool
is_clipped e (Column k) = is_high e
is_clipped e (Literal n) = false
is_clipped e (Add a b) = is_clipped e a || is_clipped e b
is_clipped e (Sub a b) = is_clipped e a || is_clipped (other_end e) b
is_clipped e (Mul a b) = is_clipped e a || is_clipped e b

-- the sums are those of a number of each row of a mask, and of a column's number times that; and, where this is wanted, of what that number
-- is less at the column's high end
pub record AreColumnSums (table : KnownTable) (mask : List Bool) (c : ℕ) (f : ℕ → ℤ) (wanted : Bool) (sums : ColumnSums) : Type 0 where
  pub rows : length mask ≡ table.frame.rows
  pub all : sums.all ≡ int_wrap w128 (sum_over mask f)
  pub numbers : sums.numbers ≡ int_wrap w128 (sum_over mask (λ r. pos (first_number table c (known_at table.known c).read r) *ℤ f r))
  pub clipped : IsTrue wanted → sums.clipped ≡ int_wrap w128 (weight_of_top High (column_at table c)
      *ℤ sum_over (zip2 (λ a b. a && b) mask (rows_where is_at_top (column_at table c))) f)

-- what the rows at the prefix of the second column's top give less, of a mask
pub record AreClipped (table : KnownTable) (mask : List Bool) (pair : Pair) (clipped : Clipped) : Type 0 where
  pub rows : clipped.rows
      ≡ int_wrap w128 (weight_of_top High (column_at table pair.second)
      *ℤ sum_over (zip2 (λ a b. a && b) mask (rows_where is_at_top (column_at table pair.second))) (λ r. pos 1))
  pub numbers : clipped.numbers ≡ int_wrap w128 (weight_of_top High (column_at table pair.second)
      *ℤ sum_over (zip2 (λ a b. a && b) mask (rows_where is_at_top (column_at table pair.second)))
      (λ r. pos (first_number table pair.first (known_at table.known pair.first).read r)))

-- ---- planes of a third column

-- the rows of a mask that have the bit of 1 in a plane
abbrev pub rows_with : KnownTable → List Bool → ℕ → ℕ → List Bool
rows_with table mask c j = zip2 (λ a b. a && b) mask (ones_of (column_at table c) j)

-- what no plane gives
abbrev pub no_sums : PairSums
no_sums = record { first_read = 0; second_read = 0; first = pos 0; second = pos 0; both = pos 0 }

-- of each plane of a column that holds a digit and was read: what planes of two others gave over a mask's rows with its bit
pub record ArePlaneSums (table : KnownTable) (mask : List Bool) (pair : Pair) (c : ℕ) (sums : List PairSums) : Type 0 where
  pub there : c < length table.frame.columns
  pub size : length sums ≡ planes (ends_at table.frame c)
  pub read : (j : ℕ) → first_digit (column_at table c) ≤ j → j < (known_at table.known c).read →
      ArePairSums table (rows_with table mask c j) pair (get_or sums j no_sums)
  pub unread : (j : ℕ) → (known_at table.known c).read ≤ j → j < length sums → get_or sums j no_sums ≡ no_sums

-- ---- what is kept

-- rows, and what planes of two columns gave over them. No plane that is read changes it
abbrev pub IsKeptPair : KnownTable → Pair → KeptPair → Type 0
IsKeptPair table pair kept = ArePairSums table kept.mask pair kept.sums

-- such rows, and what planes gave over those with the bit of each plane of a third column, if there is one, and over some at the prefix of
-- its top
pub record IsKept (table : KnownTable) (columns : KeptColumns) (kept : Kept) : Type 0 where
  pub whole : IsKeptPair table columns.pair kept.whole
  pub planes : IfSome columns.third (λ third. ArePlaneSums table kept.whole.mask columns.pair third.column kept.planes.items)
  pub top : IsKeptPair table columns.pair kept.top

-- of one cell both are kept
pub record AreKeptEnds (table : KnownTable) (columns : KeptColumns) (kept : KeptEnds) : Type 0 where
  pub low : IsKept table columns kept.low
  pub high : IsKept table columns kept.high

-- the columns are those of an expression
pub record AreColumnsOf (table : KnownTable) (term : Term) (columns : KeptColumns) : Type 0 where
  pub pair_is : IsPair table columns.pair
  pub product : IsProductWith columns.pair.first (inner_part columns.third term)
  pub linear : IsLinear columns.pair.second (other_part columns.pair.first (inner_part columns.third term))
  pub third : IfSome columns.third (λ third. IsThird table third term)

-- the ends of an expression are kept
pub record IsKeptProduct (table : KnownTable) (term : Term) (kept : KeptProduct) : Type 0 where
  pub columns_are : AreColumnsOf table term kept.columns
  pub cells_are : All (AreKeptEnds table kept.columns) kept.cells.items
  pub room_is : length kept.room ≡ table.frame.rows
