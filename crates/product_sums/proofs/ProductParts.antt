-- A product of a column and another part.
use Rattle.std.proofs.Common.{◌≡◌, ℕ, ◌<◌, ◌==◌, ◌*ℤ◌, Bool, true, false, ◌&&◌, ◌||◌, cond, length, refl, ap, sym, subst, ◌∙◌, arith, List}
use Rattle.std.proofs.lemmas.Bool.{false≢true}
use Rattle.std.proofs.lemmas.Bool.Decides.{nat_tests}
use Rattle.aggregates.specs.declared.ends.End.{End}
use Rattle.aggregates.proofs.BlockWords.{row_within}
use Rattle.daq_table.specs.Tables.{Frame}
use Rattle.known_column.specs.KnownTables.{IsKnownTable, KnownTable}
use Rattle.query_model.specs.Meaning.{ReadsBelow}
use Rattle.query_model.specs.Queries.{Term, Column, Literal, Add, Sub, Mul}
use Rattle.product_sums.specs.KeptProducts.{CanFollow, IsProductWith, is_column_at, other_part}
use Rattle.product_sums.specs.Products.{HasValue, HasValues, IsProductSum, end_beside, has_signs, is_never_negative, keeps_sign, sum_over, term_end}
use Rattle.product_sums.proofs.Distributing.{swapped}
use Rattle.product_sums.proofs.Multiplying.{both_true, numbers_both}
use Rattle.product_sums.proofs.RowSums.{over_same}
use Rattle.product_sums.proofs.TermEnds.{product_end}

-- the expression is the column that the test names
the_column : (c : ℕ) (t : Term) → is_column_at c t ≡ true → t ≡ Column c
the_column c (Column k) is = ap Column (equal k c is)
  where
    equal : (k c : ℕ) → (k == c) ≡ true → k ≡ c
    equal k c e = grind (arith, nat_tests)
the_column c (Literal n) is = absurd (false≢true is)
the_column c (Add a b) is = absurd (false≢true is)
the_column c (Sub a b) is = absurd (false≢true is)
the_column c (Mul a b) is = absurd (false≢true is)

-- what holds where the column is the first part, and where it is the second, holds of a product with it
by_parts : (c : ℕ) (P : Term → Term → Type 0) → ((b : Term) → P (Mul (Column c) b) b) → ((a : Term) → P (Mul a (Column c)) a) → (t : Term) → IsProductWith c t → P t (other_part c t)
by_parts c P first second (Column k) is = absurd is
by_parts c P first second (Literal n) is = absurd is
by_parts c P first second (Add a b) is = absurd is
by_parts c P first second (Sub a b) is = absurd is
by_parts c P first second (Mul a b) is = by_first (is_column_at c a) (the_column c a) is
  where
    by_first : (x : Bool) → (x ≡ true → a ≡ Column c) → (x || is_column_at c b) ≡ true → P (Mul a b) (cond x b a)
    by_first true left is = subst (λ (t : Term). P (Mul t b) b) (sym (left refl)) (first b)
    by_first false left is = subst (λ (t : Term). P (Mul a t) a) (sym (the_column c b is)) (second a)

pub column_read : (c : ℕ) (t : Term) (n : ℕ) → IsProductWith c t → ReadsBelow n t → c < n
column_read c t n is = by_parts c (λ t other. ReadsBelow n t → c < n) (λ b reads. reads.0) (λ a reads. reads.1) t is

pub other_reads : (c : ℕ) (t : Term) (n : ℕ) → IsProductWith c t → ReadsBelow n t → ReadsBelow n (other_part c t)
other_reads c t n is = by_parts c (λ t other. ReadsBelow n t → ReadsBelow n other) (λ b reads. reads.1) (λ a reads. reads.0) t is

both_signs : (frame : Frame) (a b : Term) → has_signs frame (Mul a b) ≡ true → (has_signs frame a ≡ true) × (has_signs frame b ≡ true)
both_signs frame a b signs = both_true (has_signs frame a) (has_signs frame b) (both_true (has_signs frame a && has_signs frame b) (keeps_sign frame a && keeps_sign frame b) signs).0

pub other_sums : (frame : Frame) (c : ℕ) (t : Term) → IsProductWith c t → IsProductSum frame t → IsProductSum frame (other_part c t)
other_sums frame c t is = by_parts c (λ t other. IsProductSum frame t → IsProductSum frame other)
    (λ b sums. record { columns = sums.columns.1; wide = sums.wide.1; signs = (both_signs frame (Column c) b sums.signs).1; few_factors = omega (arith, sums.few_factors) })
    (λ a sums. record { columns = sums.columns.0; wide = sums.wide.0; signs = (both_signs frame a (Column c) sums.signs).0; few_factors = omega (arith, sums.few_factors) }) t is

-- the end of a part that gives an end of its product with another
abbrev pub beside : Frame → Term → End → End
beside frame other e = end_beside (is_never_negative frame other) e

module _ (table : KnownTable) (c : ℕ) where
  -- where the product has a value, both have
  pub parts_valued : (t : Term) (row : ℕ) → IsProductWith c t → HasValue table t row → HasValue table (Column c) row × HasValue table (other_part c t) row
  parts_valued t row is = by_parts c (λ t other. HasValue table t row → HasValue table (Column c) row × HasValue table other row) (λ b value. numbers_both _ _ value)
      (λ a value. (let both = numbers_both _ _ value in (both.1, both.0))) t is

  -- an end is the product of an end of each
  pub parts_end : IsKnownTable table → (row : ℕ) → row < table.frame.rows → (e : End) (t : Term) → IsProductWith c t → IsProductSum table.frame t →
      term_end table e t row ≡ term_end table (beside table.frame (other_part c t) e) (Column c) row *ℤ term_end table (beside table.frame (Column c) e) (other_part c t) row
  parts_end known row below e t is = by_parts c (λ t other. IsProductSum table.frame t → term_end table e t row ≡ term_end table (beside table.frame other e) (Column c) row *ℤ term_end table (beside table.frame (Column c) e) other row)
      (λ b sums. product_end table known row below e (Column c) b (both_true _ _ sums.signs).1)
      (λ a sums. product_end table known row below e a (Column c) (both_true _ _ sums.signs).1 ∙ swapped (term_end table (beside table.frame (Column c) e) a row) (term_end table (beside table.frame a e) (Column c) row)) t is

  pub parts_sum : IsKnownTable table → (mask : List Bool) → length mask ≡ table.frame.rows → (e : End) (t : Term) → IsProductWith c t → IsProductSum table.frame t →
      sum_over mask (λ r. term_end table (beside table.frame (other_part c t) e) (Column c) r *ℤ term_end table (beside table.frame (Column c) e) (other_part c t) r) ≡ sum_over mask (term_end table e t)
  parts_sum known mask long e t is sums =
      over_same mask (λ r. term_end table (beside table.frame (other_part c t) e) (Column c) r *ℤ term_end table (beside table.frame (Column c) e) (other_part c t) r) (term_end table e t)
      (λ r has. sym (parts_end known r (omega (arith, row_within mask r has, long)) e t is sums))

  pub parts_follow : (mask : List Bool) → length mask ≡ table.frame.rows → (t : Term) → IsProductWith c t → IsProductSum table.frame t → HasValues table t mask → CanFollow table mask c (other_part c t)
  parts_follow mask long t is sums values = record {
    rows = long;
    there = column_read c t (length table.frame.columns) is sums.columns;
    sums = other_sums table.frame c t is sums;
    values = λ r has. (parts_valued t r is (values r has)).1;
  }
