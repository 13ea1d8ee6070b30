-- Ends of expressions at rows, their products, and what these come to over the rows of a mask.
use Rattle.std.specs.Prelude.{◌≡◌, ℕ, suc, ◌+◌, ◌-◌, ◌*◌, ◌<◌, ◌≤◌, min, max, ℤ, pos, ◌+ℤ◌, ◌*ℤ◌, int_le}
use Rattle.std.specs.Prelude.{Bool, true, false, ◌&&◌, ◌||◌, cond, List, [], ◌∷◌, length, map, IsTrue}
use Rattle.aggregates.specs.declared.ends.End.{End}
use Rattle.aggregates.specs.declared.ends.End.TheVariants.{Low, High}
use Rattle.aggregates.specs.Selections.{end_of, has_row, rows_in}
use Rattle.daq_table.specs.Tables.{Frame}
use Rattle.known_column.specs.KnownTables.{IsKnownTable, KnownTable}
use Rattle.query_model.specs.Bounds.{Pair}
use Rattle.query_model.specs.Knowledge.{ranges_of}
use Rattle.query_model.specs.Meaning.{ReadsBelow}
use Rattle.query_model.specs.Queries.{Term, Column, Literal, Add, Sub, Mul, term_of}
use Rattle.query_model.specs.Truths.{may_be_number, null_of, span_of}
use Rattle.query_model.specs.Validity.{declared_ranges, FitsWide}
use Rattle.product_sums.specs.declared.factors.Factor.{Factor}

-- ---- which expressions

-- the expression is never below 0, by what is declared of its columns
abbrev pub is_never_negative : Frame → Term → Bool
is_never_negative frame term = int_le (pos 0) (span_of term (declared_ranges frame)).low

-- it is never above 0
abbrev pub is_never_positive : Frame → Term → Bool
is_never_positive frame term = int_le (span_of term (declared_ranges frame)).high (pos 0)

-- it keeps one sign
abbrev pub keeps_sign : Frame → Term → Bool
keeps_sign frame term = is_never_negative frame term || is_never_positive frame term

-- each product in the expression is one of two parts that keep their signs
abbrev pub has_signs : Frame → Term → Bool
has_signs frame (Column c) = true
has_signs frame (Literal n) = true
has_signs frame (Add a b) = has_signs frame a && has_signs frame b
has_signs frame (Sub a b) = has_signs frame a && has_signs frame b
has_signs frame (Mul a b) = (has_signs frame a && has_signs frame b) && (keeps_sign frame a && keeps_sign frame b)

-- of how many factors the longest product is, multiplied out
abbrev pub degree : Term → ℕ
degree (Column c) = 1
degree (Literal n) = 1
degree (Add a b) = max (degree a) (degree b)
degree (Sub a b) = max (degree a) (degree b)
degree (Mul a b) = degree a + degree b

-- the expression is a sum of products of at most four factors, and each end of it is that sum of products of ends
pub record IsProductSum (frame : Frame) (term : Term) : Type 0 where
  pub columns : ReadsBelow (length frame.columns) term
  pub wide : FitsWide term (declared_ranges frame)
  pub signs : has_signs frame term ≡ true
  pub few_factors : degree term ≤ 4

-- ---- ends at rows

abbrev pub other_end : End → End
other_end Low = High
other_end High = Low

-- the end of a factor that gives an end of its product with another: where that is below 0, the other end
abbrev pub end_beside : Bool → End → End
end_beside true end = end
end_beside false end = other_end end

-- an end of where the expression lies at a row
abbrev pub term_end : KnownTable → End → Term → ℕ → ℤ
term_end table end term row = end_of end (span_of term (ranges_of table.frame table.known row))

-- the expression is not surely null at a row
abbrev pub HasValue : KnownTable → Term → ℕ → Type 0
HasValue table term row = IsTrue (may_be_number (null_of term (ranges_of table.frame table.known row)))

-- the expression is not surely null at any row of a mask
abbrev pub HasValues : KnownTable → Term → List Bool → Type 0
HasValues table term mask = (row : ℕ) → IsTrue (has_row mask row) → HasValue table term row

-- ---- products of factors

-- their ends at a row, multiplied
abbrev pub product_at : KnownTable → List Factor → ℕ → ℤ
product_at table [] row = pos 1
product_at table (f ∷ fs) row = term_end table f.end (term_of f.term.now) row *ℤ product_at table fs row

-- how many factors there are, multiplied out
abbrev pub degrees : List Factor → ℕ
degrees [] = 0
degrees (f ∷ fs) = degree (term_of f.term.now) + degrees fs

-- each can be multiplied
abbrev pub AreFactors : Frame → List Factor → Type 0
AreFactors frame [] = Unit {0}
AreFactors frame (f ∷ fs) =
    ReadsBelow (length frame.columns) (term_of f.term.now) × (has_signs frame (term_of f.term.now) ≡ true)
    × FitsWide (term_of f.term.now) (declared_ranges frame) × AreFactors frame fs

-- none is surely null at a row
abbrev pub HaveValues : KnownTable → List Factor → ℕ → Type 0
HaveValues table [] row = Unit {0}
HaveValues table (f ∷ fs) row = HasValue table (term_of f.term.now) row × HaveValues table fs row

-- these are rows of a block of 512 of a table, and there these factors can be multiplied
pub record CanMultiply (table : KnownTable) (block : ℕ) (rows : List Bool) (factors : List Factor) : Type 0 where
  pub known : IsKnownTable table
  pub within : 512 * block < table.frame.rows
  pub count : length rows ≡ min 512 (table.frame.rows - 512 * block)
  pub factors_are : AreFactors table.frame factors
  pub few_factors : degrees factors ≤ 4
  pub values : (i : ℕ) → IsTrue (has_row rows i) → HaveValues table factors (512 * block + i)

-- ---- sums over rows

-- a number of each row, added up over the rows of a mask
abbrev pub sum_over : List Bool → (ℕ → ℤ) → ℤ
sum_over [] f = pos 0
sum_over (b ∷ mask) f = cond b (f 0) (pos 0) +ℤ sum_over mask (λ r. f (suc r))

-- the product of factors, added up over rows of a block
abbrev pub sum_of_products : KnownTable → ℕ → List Bool → List Factor → ℤ
sum_of_products table block rows factors = sum_over rows (λ i. product_at table factors (512 * block + i))

-- ---- pairs of rows

-- the pair of a row: whether a mask has it, and where the expression lies there
abbrev pub pair_at : KnownTable → Term → List Bool → ℕ → Pair
pair_at table term must row = record { certain = has_row must row; low = term_end table Low term row; high = term_end table High term row }

-- the pairs of a mask's rows
abbrev pub pairs_of : KnownTable → Term → List Bool → List Bool → List Pair
pairs_of table term may must = map (pair_at table term must) (rows_in may)
