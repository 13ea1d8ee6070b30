-- Which factors can be multiplied, part by part and at fewer rows.
use Rattle.std.proofs.Common.{◌≡◌, ℕ, ◌+◌, ◌*◌, ◌<◌, ◌≤◌, Bool, true, false, ◌&&◌, List, [], ◌∷◌, length, IsTrue, refl, ap, sym, subst, ◌∙◌, arith}
use Rattle.std.specs.Simd.Lanes.{zip2}
use Rattle.std.proofs.lemmas.Bool.{false≢true}
use Rattle.std.proofs.lemmas.Simd.{get_or-zip2, length-zip2}
use Rattle.aggregates.specs.Selections.{has_row}
use Rattle.aggregates.proofs.BlockWords.{row_within}
use Rattle.known_column.specs.KnownTables.{KnownTable}
use Rattle.query_model.specs.declared.bounds.Nullity.{Nullity}
use Rattle.query_model.specs.declared.bounds.Nullity.TheVariants.{Always, Never, Possibly}
use Rattle.query_model.specs.Meaning.{ReadsBelow}
use Rattle.query_model.specs.Queries.{Term, Column, Literal, Add, Sub, Mul, term_of}
use Rattle.query_model.specs.Truths.{may_be_number, one_null}
use Rattle.query_model.specs.Validity.{FitsWide, declared_ranges}
use Rattle.product_sums.specs.declared.factors.Factor.{Factor}
use Rattle.product_sums.specs.Products.{CanMultiply, HasValue, degree, degrees, has_signs}

pub both_true : (a b : Bool) → (a && b) ≡ true → (a ≡ true) × (b ≡ true)
both_true true b h = (refl, h)
both_true false b h = absurd (false≢true h)

-- where one of two values is not surely null, neither is
pub numbers_both : (x y : Nullity) → IsTrue (may_be_number (one_null x y)) → IsTrue (may_be_number x) × IsTrue (may_be_number y)
numbers_both Never Never h = (refl, refl)
numbers_both Never Possibly h = (refl, refl)
numbers_both Never Always h = cc
numbers_both Possibly Never h = (refl, refl)
numbers_both Possibly Possibly h = (refl, refl)
numbers_both Possibly Always h = cc
numbers_both Always y h = cc

-- each expression counts for one factor at least
pub some_degree : (t : Term) → 1 ≤ degree t
some_degree (Column c) = omega arith
some_degree (Literal n) = omega arith
some_degree (Add a b) = omega (arith, some_degree a, some_degree b)
some_degree (Sub a b) = omega (arith, some_degree a, some_degree b)
some_degree (Mul a b) = omega (arith, some_degree a, some_degree b)

pub few_of_degree : (fs : List Factor) → length fs ≤ degrees fs
few_of_degree [] = omega arith
few_of_degree (f ∷ fs) = omega (arith, some_degree (term_of f.term.now), few_of_degree fs)

-- no factor can always be multiplied
pub can_count : (table : KnownTable) (block : ℕ) (rows : List Bool) (fs : List Factor) → CanMultiply table block rows fs → CanMultiply table block rows []
can_count table block rows fs can = record {
  known = can.known;
  within = can.within;
  count = can.count;
  factors_are = tt;
  few_factors = omega arith;
  values = λ i has. tt;
}

module _ (table : KnownTable) (block : ℕ) where
  -- an expression that can be a factor at these rows
  pub record IsFactor (rows : List Bool) (t : Term) : Type 0 where
    pub reads : ReadsBelow (length table.frame.columns) t
    pub signs : has_signs table.frame t ≡ true
    pub wide : FitsWide t (declared_ranges table.frame)
    pub values : (i : ℕ) → IsTrue (has_row rows i) → HasValue table t (512 * block + i)

  pub first_of : (rows : List Bool) (f : Factor) (fs : List Factor) → CanMultiply table block rows (f ∷ fs) → IsFactor rows (term_of f.term.now)
  first_of rows f fs h = record { reads = h.factors_are.0; signs = h.factors_are.1; wide = h.factors_are.2; values = λ i has. (h.values i has).0 }

  pub rest_of : (rows : List Bool) (f : Factor) (fs : List Factor) → CanMultiply table block rows (f ∷ fs) → CanMultiply table block rows fs
  rest_of rows f fs h = record {
    known = h.known;
    within = h.within;
    count = h.count;
    factors_are = h.factors_are.3;
    few_factors = omega (arith, h.few_factors);
    values = λ i has. (h.values i has).1;
  }

  pub with_first : (rows : List Bool) (f : Factor) (fs : List Factor) → IsFactor rows (term_of f.term.now) → CanMultiply table block rows fs → degree (term_of f.term.now) + degrees fs ≤ 4 → CanMultiply table block rows (f ∷ fs)
  with_first rows f fs first h few = record {
    known = h.known;
    within = h.within;
    count = h.count;
    factors_are = (first.reads, first.signs, first.wide, h.factors_are);
    few_factors = few;
    values = λ i has. (first.values i has, h.values i has);
  }

  -- another expression in the place of the first factor's
  pub replaced : (rows : List Bool) (f g : Factor) (t : Term) (fs : List Factor) → CanMultiply table block rows (f ∷ fs) → term_of g.term.now ≡ t → IsFactor rows t → degree t ≤ degree (term_of f.term.now) → CanMultiply table block rows (g ∷ fs)
  replaced rows f g t fs h is first few =
      let d : degree (term_of g.term.now) ≡ degree t = ap degree is in
      with_first rows g fs (subst (IsFactor rows) (sym is) first) (rest_of rows f fs h) (omega (arith, d, few, h.few_factors))

  pub parts_of_sum : (rows : List Bool) (a b : Term) → IsFactor rows (Add a b) → IsFactor rows a × IsFactor rows b
  parts_of_sum rows a b h =
      let signs = both_true _ _ h.signs in (
        record { reads = h.reads.0; signs = signs.0; wide = h.wide.0; values = λ i has. (numbers_both _ _ (h.values i has)).0 },
        record { reads = h.reads.1; signs = signs.1; wide = h.wide.1; values = λ i has. (numbers_both _ _ (h.values i has)).1 },
      )

  pub parts_of_difference : (rows : List Bool) (a b : Term) → IsFactor rows (Sub a b) → IsFactor rows a × IsFactor rows b
  parts_of_difference rows a b h =
      let signs = both_true _ _ h.signs in (
        record { reads = h.reads.0; signs = signs.0; wide = h.wide.0; values = λ i has. (numbers_both _ _ (h.values i has)).0 },
        record { reads = h.reads.1; signs = signs.1; wide = h.wide.1; values = λ i has. (numbers_both _ _ (h.values i has)).1 },
      )

  pub parts_of_product : (rows : List Bool) (a b : Term) → IsFactor rows (Mul a b) → IsFactor rows a × IsFactor rows b
  parts_of_product rows a b h =
      let signs = both_true _ _ (both_true _ _ h.signs).0 in (
        record { reads = h.reads.0; signs = signs.0; wide = h.wide.0; values = λ i has. (numbers_both _ _ (h.values i has)).0 },
        record { reads = h.reads.1; signs = signs.1; wide = h.wide.1; values = λ i has. (numbers_both _ _ (h.values i has)).1 },
      )

  -- fewer rows
  pub among : (rows bits : List Bool) (i : ℕ) → length bits ≡ length rows → IsTrue (has_row (zip2 (λ a b. a && b) rows bits) i) → IsTrue (has_row rows i)
  among rows bits i same has =
      let long : length (zip2 (λ a b. a && b) rows bits) ≡ length rows = length-zip2 (λ a b. a && b) rows bits (sym same) in
      let below : i < length rows = omega (arith, row_within (zip2 (λ a b. a && b) rows bits) i has, long) in
      (both_true _ _ (sym (get_or-zip2 (λ a b. a && b) rows bits i false false false below (omega (arith, below, same))) ∙ has)).0

  pub fewer_rows : (rows bits : List Bool) (fs : List Factor) → length bits ≡ length rows → CanMultiply table block rows fs → CanMultiply table block (zip2 (λ a b. a && b) rows bits) fs
  fewer_rows rows bits fs same h = record {
    known = h.known;
    within = h.within;
    count = length-zip2 (λ a b. a && b) rows bits (sym same) ∙ h.count;
    factors_are = h.factors_are;
    few_factors = h.few_factors;
    values = λ i has. h.values i (among rows bits i same has);
  }
