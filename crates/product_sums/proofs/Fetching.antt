-- Words of a block that are fetched plane by plane, and what they count.
use Rattle.std.proofs.Common.{◌≡◌, ℕ, ◌+◌, ◌-◌, ◌*◌, ◌^◌, ◌<◌, ◌≤◌, ◌&&◌, ◌≢◌, min, ℤ, pos, ◌*ℤ◌, FitsSigned, Bool, List, [], ◌∷◌, length, take, drop, get_or, count_by, Some, slice_get, inl, inr, ap, sym, subst, ◌∙◌, arith}
use Rattle.std.specs.Prelude.{set}
use Rattle.std.specs.Simd.Lanes.{zip2}
use Rattle.std.specs.Int.{w128}
use Rattle.std.proofs.lemmas.Int.{int_wrap_fits}
use Rattle.std.proofs.lemmas.List.{get_or-set_other, get_or-set_same}
use Rattle.aggregates.proofs.BlockWords.{place}
use Rattle.known_column.specs.Columns.{KnownColumn}
use Rattle.known_column.specs.KnownTables.{KnownTable}
use Rattle.plane_kernels.specs.Rows.{rows_of, IsPadded}
use Rattle.query_model.specs.Queries.{Column, term_of}
use Rattle.product_sums.specs.declared.factors.Factor.{Factor}
use Rattle.product_sums.specs.Fetched.{AreFetchedBelow, IsBlockOf, first_digit, ones_of}
use Rattle.product_sums.specs.Products.{product_at, sum_of_products, term_end, HasValue, HaveValues}
use Rattle.product_sums.proofs.Firsts.{empty_sum}
use Rattle.product_sums.proofs.Residues.{wrapped}

-- one plane more
pub fetched_more : (column : KnownColumn) (block : ℕ) (planes : List (List ℕ)) (words : List ℕ) (j : ℕ) → AreFetchedBelow column block planes j → first_digit column ≤ j → j - first_digit column < length planes → IsBlockOf (ones_of column j) block words →
    AreFetchedBelow column block (set planes (j - first_digit column) words) (j + 1)
fetched_more column block planes words j below first room is k from small = elim (place k j) [
  | inl h ↦ subst (IsBlockOf (ones_of column k) block) (sym (get_or-set_other planes (j - first_digit column) (k - first_digit column) words [] (apart h))) (below k from h)
  | inr h ↦ (let same : k ≡ j = omega (arith, h, small) in
      subst (λ n. IsBlockOf (ones_of column n) block (get_or (set planes (j - first_digit column) words) (n - first_digit column) [])) (sym same)
      (subst (IsBlockOf (ones_of column j) block) (sym (get_or-set_same planes (j - first_digit column) words [] room)) is))
]
  where
    apart : k < j → (k - first_digit column) ≢ (j - first_digit column)
    apart h e = absurd (omega (arith, h, from, first, e))

-- the words of a block that are counted in its rows
pub bits_there : (whole rows : List Bool) (block : ℕ) (words : List ℕ) → IsBlockOf whole block words → length rows ≡ min 512 (length whole - 512 * block) →
    (IsPadded (length rows) words) × (zip2 (λ a b. a && b) rows (rows_of (length rows) words) ≡ zip2 (λ a b. a && b) rows (take 512 (drop (512 * block) whole)))
bits_there whole rows block words is long =
    (subst (λ n. IsPadded n words) (sym long) is.padded, ap (zip2 (λ a b. a && b) rows) (ap (λ n. rows_of n words) long ∙ is.bits))

-- a count of rows as a sum of products of no factors
pub count_is : (table : KnownTable) (block : ℕ) (rows : List Bool) (n : ℕ) (z : ℤ) → z ≡ pos n → n ≡ count_by (λ b. b) rows → n < 2 ^ 64 → z ≡ wrapped (sum_of_products table block rows [])
count_is table block rows n z is counted small =
    let few : FitsSigned w128 (pos n) = record { sfits = omega (arith, small) } in
    is ∙ sym (int_wrap_fits w128 (pos n) few) ∙ ap (λ k. wrapped (pos k)) counted ∙ ap wrapped (sym (empty_sum table block rows [] (omega arith)))

-- the only factor
module _ (table : KnownTable) (only : Factor) (c : ℕ) (is : term_of only.term.now ≡ Column c) where
  pub lone_product : (fs : List Factor) → length fs ≡ 1 → slice_get fs 0 ≡ Some only → (row : ℕ) → product_at table fs row ≡ term_end table only.end (Column c) row *ℤ pos 1
  lone_product [] one first row = absurd (omega (arith, one))
  lone_product (f ∷ []) one first row = (let same = first_is f first in ap (λ g. term_end table g.end (term_of g.term.now) row *ℤ pos 1) same ∙ ap (λ t. term_end table only.end t row *ℤ pos 1) is)
    where
      first_is : (f : Factor) → Some f ≡ Some only → f ≡ only
      first_is f e = cc
  lone_product (f ∷ g ∷ fs) one first row = absurd (omega (arith, one))

  pub lone_values : (fs : List Factor) → length fs ≡ 1 → slice_get fs 0 ≡ Some only → (row : ℕ) → HaveValues table fs row → HasValue table (Column c) row
  lone_values [] one first row values = absurd (omega (arith, one))
  lone_values (f ∷ fs) one first row values =
      subst (λ t. HasValue table t row) (ap (λ (g : Factor). term_of g.term.now) (first_is f first) ∙ is) values.0
    where
      first_is : (f : Factor) → Some f ≡ Some only → f ≡ only
      first_is f e = cc
