-- A product of a product with a column and of a third part: its parts, and what it comes to over the rows of a mask.
use Rattle.std.proofs.Common.{◌≡◌, ℕ, ◌+◌, ◌<◌, ◌≤◌, ◌*ℤ◌, Bool, true, false, ◌&&◌, cond, List, length, get_or, set, inl, inr, IfSome, refl, ap, sym, subst, ◌∙◌, arith}
use Rattle.std.specs.Prelude.{◌≢◌, ◌⊎◌, None, Some, replicate}
use Rattle.std.specs.declared.option.Option.{Option}
use Rattle.std.specs.Simd.Lanes.{zip2}
use Rattle.std.proofs.lemmas.List.{get_or-replicate, get_or-set_other, get_or-set_same, length-replicate}
use Rattle.std.proofs.lemmas.Simd.{length-zip2}
use Rattle.aggregates.specs.declared.ends.End.{End}
use Rattle.aggregates.proofs.BlockWords.{place}
use Rattle.daq_table.specs.Tables.{Frame, ends_at, planes}
use Rattle.known_column.specs.KnownTables.{IsKnownTable, KnownTable, column_at}
use Rattle.query_model.specs.Queries.{Term, Column, Literal, Add, Sub, Mul, term_of}
use Rattle.product_sums.specs.declared.factors.Factor.{Factor}
use Rattle.product_sums.specs.declared.factors.PartEnds.{PartEnds}
use Rattle.product_sums.specs.declared.kept_column.Third.{Third}
use Rattle.product_sums.specs.declared.pair_sums.Pair.{Pair}
use Rattle.product_sums.specs.declared.pair_sums.PairSums.{PairSums}
use Rattle.product_sums.specs.Fetched.{ones_of}
use Rattle.product_sums.specs.KeptProducts.{AreOuter, ArePlaneSums, CanFollow, CanFollowPair, IsLinear, IsPair, IsProductWith, IsThird, inner_part, no_sums, other_part, outer_part, rows_with}
use Rattle.product_sums.specs.Products.{HasValue, HasValues, IsProductSum, has_signs, keeps_sign, term_end}
use Rattle.product_sums.proofs.Distributing.{swapped}
use Rattle.product_sums.proofs.KeptProducts.{length-ones, values_among}
use Rattle.product_sums.proofs.Multiplying.{both_true, numbers_both}
use Rattle.product_sums.proofs.PairSums.{unread_are}
use Rattle.product_sums.proofs.ProductParts.{beside, parts_follow, parts_valued}
use Rattle.product_sums.proofs.TermEnds.{product_end}

-- ---- fewer rows

pub follow_among : (table : KnownTable) (mask bits : List Bool) (pair : Pair) (parts : PartEnds) → length bits ≡ length mask → CanFollowPair table mask pair parts → CanFollowPair table (zip2 (λ a b. a && b) mask bits) pair parts
follow_among table mask bits pair parts same can = record {
  linear = can.linear;
  follow = record {
    rows = length-zip2 (λ a b. a && b) mask bits (sym same) ∙ can.follow.rows;
    there = can.follow.there;
    sums = can.follow.sums;
    values = values_among table (term_of parts.other.term.now) mask bits same can.follow.values;
  };
  values = values_among table (Column pair.first) mask bits same can.values;
}

-- ---- both parts

signs_of : (frame : Frame) (a b : Term) → has_signs frame (Mul a b) ≡ true → (has_signs frame a ≡ true) × (has_signs frame b ≡ true)
signs_of frame a b signs = both_true (has_signs frame a) (has_signs frame b) (both_true (has_signs frame a && has_signs frame b) (keeps_sign frame a && keeps_sign frame b) signs).0

both_sums : (frame : Frame) (x : Bool) (a b : Term) → IsProductSum frame (Mul a b) → IsProductSum frame (cond x a b) × IsProductSum frame (cond x b a)
both_sums frame x a b sums = by_side x
  where
    left : IsProductSum frame a
    left = record { columns = sums.columns.0; wide = sums.wide.0; signs = (signs_of frame a b sums.signs).0; few_factors = omega (arith, sums.few_factors) }

    right : IsProductSum frame b
    right = record { columns = sums.columns.1; wide = sums.wide.1; signs = (signs_of frame a b sums.signs).1; few_factors = omega (arith, sums.few_factors) }

    by_side : (x : Bool) → IsProductSum frame (cond x a b) × IsProductSum frame (cond x b a)
    by_side true = (left, right)
    by_side false = (right, left)

pub third_sums : (table : KnownTable) (third : Third) (t : Term) → IsThird table third t → IsProductSum table.frame t →
    IsProductSum table.frame (inner_part (Some third) t) × IsProductSum table.frame (outer_part third t)
third_sums table third (Column k) is sums = absurd is
third_sums table third (Literal n) is sums = absurd is
third_sums table third (Add a b) is sums = absurd is
third_sums table third (Sub a b) is sums = absurd is
third_sums table third (Mul a b) is sums = both_sums table.frame third.is_second a b sums

-- where the whole has a value, both have
pub third_valued : (table : KnownTable) (third : Third) (t : Term) (row : ℕ) → IsThird table third t → HasValue table t row → HasValue table (inner_part (Some third) t) row × HasValue table (outer_part third t) row
third_valued table third (Column k) row is value = absurd is
third_valued table third (Literal n) row is value = absurd is
third_valued table third (Add a b) row is value = absurd is
third_valued table third (Sub a b) row is value = absurd is
third_valued table third (Mul a b) row is value = by_side third.is_second
  where
    both : HasValue table a row × HasValue table b row
    both = numbers_both _ _ value

    by_side : (x : Bool) → HasValue table (cond x a b) row × HasValue table (cond x b a) row
    by_side true = both
    by_side false = (both.1, both.0)

-- an end is the product of an end of each
pub third_end : (table : KnownTable) → IsKnownTable table → (third : Third) (row : ℕ) → row < table.frame.rows → (e : End) (t : Term) → IsThird table third t → IsProductSum table.frame t →
    term_end table e t row
    ≡ term_end table (beside table.frame (inner_part (Some third) t) e) (outer_part third t) row *ℤ term_end table (beside table.frame (outer_part third t) e) (inner_part (Some third) t) row
third_end table known third row below e (Column k) is sums = absurd is
third_end table known third row below e (Literal n) is sums = absurd is
third_end table known third row below e (Add a b) is sums = absurd is
third_end table known third row below e (Sub a b) is sums = absurd is
third_end table known third row below e (Mul a b) is sums = by_side third.is_second
  where
    both : term_end table e (Mul a b) row ≡ term_end table (beside table.frame b e) a row *ℤ term_end table (beside table.frame a e) b row
    both = product_end table known row below e a b (both_true (has_signs table.frame a && has_signs table.frame b) (keeps_sign table.frame a && keeps_sign table.frame b) sums.signs).1

    by_side : (x : Bool) → term_end table e (Mul a b) row ≡ term_end table (beside table.frame (cond x a b) e) (cond x b a) row *ℤ term_end table (beside table.frame (cond x b a) e) (cond x a b) row
    by_side true = both ∙ swapped (term_end table (beside table.frame b e) a row) (term_end table (beside table.frame a e) b row)
    by_side false = both

-- ---- what planes gave, one by one

other_place : (i at : ℕ) → (i < at) ⊎ (at < i) → i ≢ at
other_place i at (inl h) same = omega (arith, h, same)
other_place i at (inr h) same = omega (arith, h, same)

-- one more has followed
pub set_done : (P : ℕ → PairSums → Type 0) (sums : List PairSums) (first at : ℕ) (given : PairSums) → at < length sums → ((i : ℕ) → first ≤ i → i < at → P i (get_or sums i no_sums)) → P at given →
    (i : ℕ) → first ≤ i → i < at + 1 → P i (get_or (set sums at given) i no_sums)
set_done P sums first at given there done now i from below = elim (place i at) [
  | inl h ↦ subst (P i) (sym (get_or-set_other sums at i given no_sums (other_place i at (inl h)))) (done i from h)
  | inr h ↦ (let same : at ≡ i = omega (arith, h, below) in
      subst (λ k. P k (get_or (set sums at given) k no_sums)) same (subst (P at) (sym (get_or-set_same sums at given no_sums there)) now))
]

-- those behind have not
pub set_left : (P : ℕ → PairSums → Type 0) (sums : List PairSums) (at end : ℕ) (given : PairSums) → ((i : ℕ) → at ≤ i → i < end → P i (get_or sums i no_sums)) →
    (i : ℕ) → at + 1 ≤ i → i < end → P i (get_or (set sums at given) i no_sums)
set_left P sums at end given left i past below =
    subst (P i) (sym (get_or-set_other sums at i given no_sums (other_place i at (inr (omega (arith, past)))))) (left i (omega (arith, past)) below)

-- ---- before any plane

pub planes_opened : (table : KnownTable) → IsKnownTable table → (mask : List Bool) (pair : Pair) → IsPair table pair → length mask ≡ table.frame.rows → (c : ℕ) → c < length table.frame.columns → (n : ℕ) (sums : List PairSums) →
    n ≡ planes (ends_at table.frame c) → sums ≡ replicate n no_sums → ArePlaneSums table mask pair c sums
planes_opened table known mask pair is long c there n sums all none =
    let each : (j : ℕ) → j < n → get_or sums j no_sums ≡ no_sums = λ j below. ap (λ l. get_or l j no_sums) none ∙ get_or-replicate n j no_sums no_sums below in
    let size : length sums ≡ n = ap length none ∙ length-replicate n no_sums in
    record {
      there = there;
      size = size ∙ all;
      read = λ j from below.
          let rows : length (rows_with table mask c j) ≡ table.frame.rows = length-zip2 (λ a b. a && b) mask (ones_of (column_at table c) j) (long ∙ sym (length-ones table known c there j)) ∙ long in
          unread_are table (rows_with table mask c j) pair known is rows (get_or sums j no_sums) (each j (omega (arith, below, all, known.knowledge.read c there)));
      unread = λ j from below. each j (omega (arith, below, size));
    }

pub third_opened : (table : KnownTable) → IsKnownTable table → (mask : List Bool) (pair : Pair) → IsPair table pair → length mask ≡ table.frame.rows → (third : Option Third) (n : ℕ) (sums : List PairSums) →
    IfSome third (λ third. third.column < length table.frame.columns) → IfSome third (λ third. n ≡ planes (ends_at table.frame third.column)) → sums ≡ replicate n no_sums →
    IfSome third (λ third. ArePlaneSums table mask pair third.column sums)
third_opened table known mask pair is long None n sums there all none = tt
third_opened table known mask pair is long (Some third) n sums there all none = planes_opened table known mask pair is long third.column there n sums all none

-- ---- with and without a third part

pub no_outer : (table : KnownTable) (mask : List Bool) (third : Option Third) (outer : Option Factor) → third ≡ None → AreOuter table mask third outer → outer ≡ None
no_outer table mask None None is are = refl
no_outer table mask None (Some outer) is are = absurd are
no_outer table mask (Some third) None is are = refl
no_outer table mask (Some third) (Some outer) is are = cc

pub outer_parts : (table : KnownTable) (mask : List Bool) (third : Option Third) (outer : Option Factor) (t : Third) (o : Factor) → third ≡ Some t → outer ≡ Some o → AreOuter table mask third outer →
    (t.column < length table.frame.columns) × IsLinear t.column (term_of o.term.now) × HasValues table (term_of o.term.now) mask
outer_parts table mask third outer t o is_third is_outer are = subst (AreOuter table mask (Some t)) is_outer (subst (λ x. AreOuter table mask x outer) is_third are)

pub third_facts : (table : KnownTable) (third : Third) (t : Term) → IsThird table third t → (third.column < length table.frame.columns) × IsLinear third.column (outer_part third t)
third_facts table third (Column k) is = absurd is
third_facts table third (Literal n) is = absurd is
third_facts table third (Add a b) is = absurd is
third_facts table third (Sub a b) is = absurd is
third_facts table third (Mul a b) is = is

-- ---- the product with a column

pub pair_follows : (table : KnownTable) (mask : List Bool) (pair : Pair) (parts : PartEnds) (t : Term) → length mask ≡ table.frame.rows → IsProductWith pair.first t → IsLinear pair.second (other_part pair.first t) →
    term_of parts.other.term.now ≡ other_part pair.first t → IsProductSum table.frame t → HasValues table t mask → CanFollowPair table mask pair parts
pair_follows table mask pair parts t long product linear is sums values = record {
  linear = subst (IsLinear pair.second) (sym is) linear;
  follow = subst (CanFollow table mask pair.first) (sym is) (parts_follow table pair.first mask long t product sums values);
  values = λ row has. (parts_valued table pair.first t row product (values row has)).0;
}
