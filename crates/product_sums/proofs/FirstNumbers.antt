-- The numbers that the first planes of a column make, over the rows of a block.
use Rattle.std.proofs.Common.{◌≡◌, ℕ, ◌+◌, ◌-◌, ◌*◌, ◌/◌, ◌^◌, ◌<◌, max, inl, inr, pos, ◌*ℤ◌, Bool, List, [], length, ap, sym, ◌∙◌, arith}
use Rattle.std.proofs.Math.Nat.{div-one}
use Rattle.daq_table.specs.Tables.{ends_at}
use Rattle.aggregates.specs.ExtremeRows.{number_at}
use Rattle.aggregates.proofs.BlockWords.{place}
use Rattle.aggregates.proofs.NumberRows.{first_plane}
use Rattle.known_column.specs.KnownTables.{KnownTable, column_at}
use Rattle.query_model.specs.Knowledge.{known_at}
use Rattle.product_sums.specs.KeptProducts.{first_number, whole_number}
use Rattle.product_sums.specs.Products.{CanMultiply, product_at, sum_over}
use Rattle.product_sums.proofs.Distributing.{swapped}
use Rattle.product_sums.proofs.DigitSums.{digits_first, first_digits}
use Rattle.product_sums.proofs.PairSums.{alone}
use Rattle.product_sums.proofs.RowSums.{over_same}

module _ (table : KnownTable) (block : ℕ) (rows : List Bool) (can : CanMultiply table block rows []) (c : ℕ) (there : c < length table.frame.columns) where
  abbrev reads : ℕ
  reads = (known_at table.known c).read

  -- each row's number, once
  each_once : (k : ℕ) → first_digits table block rows (product_at table []) c k ≡ sum_over rows (λ i. pos (number_at (column_at table c) (512 * block + i) / 2 ^ k))
  each_once k =
      over_same rows (λ i. pos (number_at (column_at table c) (512 * block + i) / 2 ^ k) *ℤ pos 1) (λ i. pos (number_at (column_at table c) (512 * block + i) / 2 ^ k))
      (λ i has. alone (pos (number_at (column_at table c) (512 * block + i) / 2 ^ k)))

  -- what planes gave up to this one
  pub first_there : (j read : ℕ) → j ≡ max (first_plane (ends_at table.frame c) reads) read → first_digits table block rows (product_at table []) c (reads - j) ≡ sum_over rows (λ i. pos (first_number table c read (512 * block + i)))
  first_there j read is = elim (place read (first_plane (ends_at table.frame c) reads)) [
    | inl h ↦ digits_first table block rows (product_at table []) can c there j (omega (arith, h, is)) ∙ sym (digits_first table block rows (product_at table []) can c there read (omega (arith, h))) ∙ each_once (reads - read)
    | inr h ↦ (let same : j ≡ read = omega (arith, h, is) in ap (λ n. first_digits table block rows (product_at table []) c (reads - n)) same ∙ each_once (reads - read))
  ]

-- all planes of a column make its number
pub all_there : (table : KnownTable) (c row : ℕ) → first_number table c (known_at table.known c).read row ≡ number_at (column_at table c) row
all_there table c row =
    let reads : ℕ = (known_at table.known c).read in
    let none : reads - reads ≡ 0 = omega arith in
    ap (λ k. number_at (column_at table c) row / 2 ^ k) none ∙ div-one (number_at (column_at table c) row)

-- over rows that stand behind others: each number once
pub once_whole : (table : KnownTable) (rows : List Bool) (c from : ℕ) →
    sum_over rows (λ i. pos (number_at (column_at table c) (from + i)) *ℤ pos 1) ≡ sum_over rows (λ i. whole_number table c (from + i))
once_whole table rows c from =
    over_same rows (λ i. pos (number_at (column_at table c) (from + i)) *ℤ pos 1) (λ i. whole_number table c (from + i))
    (λ i has. alone (pos (number_at (column_at table c) (from + i))) ∙ ap pos (sym (all_there table c (from + i))))

-- and a product the other way round
pub turned_whole : (table : KnownTable) (rows : List Bool) (c d from : ℕ) →
    sum_over rows (λ i. pos (number_at (column_at table d) (from + i)) *ℤ whole_number table c (from + i)) ≡ sum_over rows (λ i. whole_number table c (from + i) *ℤ whole_number table d (from + i))
turned_whole table rows c d from =
    over_same rows (λ i. pos (number_at (column_at table d) (from + i)) *ℤ whole_number table c (from + i)) (λ i. whole_number table c (from + i) *ℤ whole_number table d (from + i))
    (λ i has. swapped (pos (number_at (column_at table d) (from + i))) (whole_number table c (from + i)) ∙ ap (λ n. whole_number table c (from + i) *ℤ pos n) (sym (all_there table d (from + i))))
