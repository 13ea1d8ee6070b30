-- Ends of an expression that adds and takes off numbers and one column, each times a number of its row, added up over a mask's rows.
use Rattle.std.proofs.Common.{◌≡◌, ℕ, ◌<◌, ℤ, pos, ◌+ℤ◌, ◌-ℤ◌, ◌*ℤ◌, Bool, true, false, ◌&&◌, ◌||◌, List, length, IsTrue, refl, ap, ◌∙◌, arith}
use Rattle.std.specs.Simd.Lanes.{zip2}
use Rattle.std.proofs.Math.IntN.{zero-*ℤ}
use Rattle.std.proofs.lemmas.Int.{ints}
use Rattle.aggregates.specs.declared.ends.End.{End}
use Rattle.aggregates.specs.declared.ends.End.TheVariants.{Low}
use Rattle.known_column.specs.Columns.{is_at_top, rows_where}
use Rattle.known_column.specs.KnownTables.{IsKnownTable, KnownTable, column_at}
use Rattle.query_model.specs.Knowledge.{known_at, ranges_of}
use Rattle.query_model.specs.Queries.{Term, Column, Literal, Add, Sub}
use Rattle.query_model.specs.Truths.{span_of}
use Rattle.product_sums.specs.declared.linear_sums.ColumnSums.{ColumnSums}
use Rattle.product_sums.specs.ColumnEnds.{weight_of_all, weight_of_digits}
use Rattle.product_sums.specs.KeptProducts.{first_number, AreColumnSums}
use Rattle.product_sums.specs.Products.{HasValues, other_end, sum_over, term_end}
use Rattle.product_sums.proofs.Distributing.{difference_times, sum_times}
use Rattle.product_sums.proofs.Firsts.{only_end}
use Rattle.product_sums.proofs.KeptProducts.{kept_end}
use Rattle.product_sums.proofs.Multiplying.{numbers_both}
use Rattle.product_sums.proofs.RowSums.{over_difference, over_multiple, over_same, over_sum}
use Rattle.product_sums.proofs.TermEnds.{end_of_difference, end_of_sum}

module _ (table : KnownTable) (mask : List Bool) (f : ℕ → ℤ) where
  pub sum_values : (a b : Term) → HasValues table (Add a b) mask → HasValues table a mask × HasValues table b mask
  sum_values a b values = (λ r has. (numbers_both _ _ (values r has)).0, λ r has. (numbers_both _ _ (values r has)).1)

  pub difference_values : (a b : Term) → HasValues table (Sub a b) mask → HasValues table a mask × HasValues table b mask
  difference_values a b values = (λ r has. (numbers_both _ _ (values r has)).0, λ r has. (numbers_both _ _ (values r has)).1)

  abbrev pub times_end : End → Term → ℤ
  times_end e t = sum_over mask (λ r. term_end table e t r *ℤ f r)

  pub literal_times : (e : End) (n : ℤ) → times_end e (Literal n) ≡ n *ℤ sum_over mask f
  literal_times e n = over_same mask (λ r. term_end table e (Literal n) r *ℤ f r) (λ r. n *ℤ f r) (λ r has. ap (λ z. z *ℤ f r) (only_end e n)) ∙ over_multiple mask n f

  pub sum_of_times : (e : End) (a b : Term) → times_end e (Add a b) ≡ times_end e a +ℤ times_end e b
  sum_of_times e a b =
      over_same mask (λ r. term_end table e (Add a b) r *ℤ f r) (λ r. (term_end table e a r *ℤ f r) +ℤ (term_end table e b r *ℤ f r))
      (λ r has. ap (λ z. z *ℤ f r) (end_of_sum e (span_of a (ranges_of table.frame table.known r)) (span_of b (ranges_of table.frame table.known r))) ∙ sum_times (term_end table e a r) (term_end table e b r) (f r))
      ∙ over_sum mask (λ r. term_end table e a r *ℤ f r) (λ r. term_end table e b r *ℤ f r)

  pub difference_of_times : (e : End) (a b : Term) → times_end e (Sub a b) ≡ times_end e a -ℤ times_end (other_end e) b
  difference_of_times e a b =
      over_same mask (λ r. term_end table e (Sub a b) r *ℤ f r) (λ r. (term_end table e a r *ℤ f r) -ℤ (term_end table (other_end e) b r *ℤ f r))
      (λ r has. ap (λ z. z *ℤ f r) (end_of_difference e (span_of a (ranges_of table.frame table.known r)) (span_of b (ranges_of table.frame table.known r))) ∙ difference_times (term_end table e a r) (term_end table (other_end e) b r) (f r))
      ∙ over_difference mask (λ r. term_end table e a r *ℤ f r) (λ r. term_end table (other_end e) b r *ℤ f r)

  -- a low end of the column is not clipped
  pub low_times : IsKnownTable table → length mask ≡ table.frame.rows → (c : ℕ) → c < length table.frame.columns → HasValues table (Column c) mask →
      times_end Low (Column c) ≡ (weight_of_digits (column_at table c) *ℤ sum_over mask (λ r. pos (first_number table c (known_at table.known c).read r) *ℤ f r)) +ℤ (weight_of_all Low (column_at table c) *ℤ sum_over mask f)
  low_times known long c there values =
      let column = column_at table c in
      let sum = (weight_of_digits column *ℤ sum_over mask (λ r. pos (first_number table c (known_at table.known c).read r) *ℤ f r)) +ℤ (weight_of_all Low column *ℤ sum_over mask f) in
      kept_end table known mask long c there f Low values ∙ ap (λ z. sum -ℤ z) (zero-*ℤ (sum_over (zip2 (λ a b. a && b) mask (rows_where is_at_top column)) f)) ∙ whole sum
    where
      whole : (z : ℤ) → z -ℤ pos 0 ≡ z
      whole z = omega (arith, ints)

-- ---- what is wanted

pub or_left : (a b : Bool) → IsTrue a → IsTrue (a || b)
or_left a b is = ap (λ x. x || b) is

pub or_right : (a b : Bool) → IsTrue b → IsTrue (a || b)
or_right true b is = refl
or_right false b is = is

-- where less is wanted the sums serve too
pub fewer_wanted : (table : KnownTable) (mask : List Bool) (c : ℕ) (f : ℕ → ℤ) (wanted less : Bool) (sums : ColumnSums) → (IsTrue less → IsTrue wanted) → AreColumnSums table mask c f wanted sums → AreColumnSums table mask c f less sums
fewer_wanted table mask c f wanted less sums weaker are = record { rows = are.rows; all = are.all; numbers = are.numbers; clipped = λ is. are.clipped (weaker is) }
