-- Whether a number lies between two others, by its comparisons with both.
use Rattle.std.proofs.Common.{◌≡◌, ℕ, ℤ, ◌<◌, ◌≤ℤ◌, Bool, true, false, not, ◌&&◌, ◌||◌, refl, sym, ap, ◌∙◌, arith}
use Rattle.std.specs.Prelude.{int_le}
use Rattle.std.proofs.lemmas.Bool.{and_parts}
use Rattle.std.proofs.lemmas.Int.{ints}
use Rattle.interval_calc.specs.Intervals.{Interval, only}
use Rattle.query_model.specs.declared.bounds.Truth.{Truth}
use Rattle.query_model.specs.declared.bounds.Truths.{Truths}
use Rattle.query_model.specs.declared.query.Comparison.{Comparison}
use Rattle.query_model.specs.declared.query.Comparison.TheVariants.{Ge, Le}
use Rattle.query_model.specs.Meaning.{between, compares}
use Rattle.query_model.specs.Truths.{Range, and_over, is_false, is_true, may_be_null, may_be_number, truth_from, truth_over, truths_over}
use Rattle.kleene_filter.specs.ByEnds.{always_between, always_compares, sometimes_between, sometimes_compares}
use Rattle.kleene_filter.specs.Blocks.{bit_in, AreTruthsFrom}
use Rattle.kleene_filter.specs.declared.block_truths.BlockTruths.{BlockTruths}
use Rattle.kleene_filter.proofs.TestsByEnds.{against_one, and_true, between_by_ends, compared_by_ends}

-- ---- the truth of a test that holds for all numbers only if for some

holds_by : (a s : Bool) → (a ≡ true → s ≡ true) → not (is_false (truth_from a s)) ≡ s
holds_by true s h = sym (h refl)
holds_by false true h = refl
holds_by false false h = refl

fails_by : (a s : Bool) → not (is_true (truth_from a s)) ≡ not a
fails_by true s = refl
fails_by false true = refl
fails_by false false = refl

holds_as : (t : Truth) (a s : Bool) → t ≡ truth_from a s → (a ≡ true → s ≡ true) → not (is_false t) ≡ s
holds_as t a s e h = ap (λ u. not (is_false u)) e ∙ holds_by a s h

fails_as : (t : Truth) (a s : Bool) → t ≡ truth_from a s → not (is_true t) ≡ not a
fails_as t a s e = ap (λ u. not (is_true u)) e ∙ fails_by a s

rises : (a b c : ℤ) → b ≤ℤ c → int_le a b ≡ true → int_le a c ≡ true
rises a b c h e = grind (arith, ints)

falls : (a b c : ℤ) → a ≤ℤ b → int_le b c ≡ true → int_le a c ≡ true
falls a b c h e = grind (arith, ints)

chained : (a b c d : ℤ) → b ≤ℤ c → int_le a b ≡ true → int_le c d ≡ true → int_le a d ≡ true
chained a b c d h e f = grind (arith, ints)

against : (op : Comparison) (i : Interval) (v : ℤ) → i.low ≤ℤ i.high → truth_over i (λ x. compares op x v) ≡ truth_from (always_compares op i (only v)) (sometimes_compares op i (only v))
against op i v o = sym (against_one op i v o) ∙ compared_by_ends op i (only v) o (omega (arith, ints))

-- ---- the bits of the truths

spread : (n l x y : Bool) → (n && (l && (x && y))) ≡ (l && ((n && x) && (n && y)))
spread true l x y = refl
spread false true x y = refl
spread false false x y = refl

either : (n x y : Bool) → (n && not (x && y)) ≡ ((n && not x) || (n && not y))
either true true y = refl
either true false y = refl
either false x y = refl

alone : (z x y : Bool) → z ≡ ((z && z) || (z && x) || (y && z))
alone true x y = refl
alone false x true = refl
alone false x false = refl

-- the truths of both comparisons
abbrev both_ends : Range → ℤ → ℤ → Truths
both_ends range low high = and_over (truths_over range (λ x. compares Ge x low)) (truths_over range (λ x. compares Le x high))

may_lie : (range : Range) (low high : ℤ) → range.numbers.low ≤ℤ range.numbers.high → (int_le low high && (both_ends range low high).may_hold) ≡ (truths_over range (between low high)).may_hold
may_lie range low high o =
    let i = range.numbers in
    let n = may_be_number range.null in
    let t = truth_over i (λ x. compares Ge x low) in
    let u = truth_over i (λ x. compares Le x high) in
    let first : not (is_false t) ≡ int_le low i.high = holds_as t (int_le low i.low) (int_le low i.high) (against Ge i low o) (rises low i.low i.high o) in
    let second : not (is_false u) ≡ int_le i.low high = holds_as u (int_le i.high high) (int_le i.low high) (against Le i high o) (falls i.low i.high high o) in
    let whole : not (is_false (truth_over i (between low high))) ≡ sometimes_between low high i =
    holds_as (truth_over i (between low high)) (always_between low high i) (sometimes_between low high i) (between_by_ends i low high o) (λ e.
    let parts = and_parts (int_le low i.low) (int_le i.high high) e in
    and_true (int_le low high) (int_le low i.high && int_le i.low high) (chained low i.low i.high high o parts.0 parts.1)
    (and_true (int_le low i.high) (int_le i.low high) (rises low i.low i.high o parts.0) (falls i.low i.high high o parts.1))) in
    ap (λ b. int_le low high && ((n && b) && (n && not (is_false u)))) first ∙ ap (λ b. int_le low high && ((n && int_le low i.high) && (n && b))) second
    ∙ sym (spread n (int_le low high) (int_le low i.high) (int_le i.low high)) ∙ ap (λ b. n && b) (sym whole)

may_lie_outside : (range : Range) (low high : ℤ) → range.numbers.low ≤ℤ range.numbers.high → (both_ends range low high).may_fail ≡ (truths_over range (between low high)).may_fail
may_lie_outside range low high o =
    let i = range.numbers in
    let n = may_be_number range.null in
    let t = truth_over i (λ x. compares Ge x low) in
    let u = truth_over i (λ x. compares Le x high) in
    let first : not (is_true t) ≡ not (int_le low i.low) = fails_as t (int_le low i.low) (int_le low i.high) (against Ge i low o) in
    let second : not (is_true u) ≡ not (int_le i.high high) = fails_as u (int_le i.high high) (int_le i.low high) (against Le i high o) in
    let whole : not (is_true (truth_over i (between low high))) ≡ not (always_between low high i) =
    fails_as (truth_over i (between low high)) (always_between low high i) (sometimes_between low high i) (between_by_ends i low high o) in
    ap (λ b. (n && b) || (n && not (is_true u))) first ∙ ap (λ b. (n && not (int_le low i.low)) || (n && b)) second
    ∙ sym (either n (int_le low i.low) (int_le i.high high)) ∙ ap (λ b. n && b) (sym whole)

null_where : (range : Range) (low high : ℤ) → (both_ends range low high).may_be_null ≡ (truths_over range (between low high)).may_be_null
null_where range low high = sym (alone (may_be_null range.null) (truths_over range (λ x. compares Le x high)).may_hold (truths_over range (λ x. compares Ge x low)).may_hold)

-- so for the rows of a block, where the bits are those of both comparisons
pub between_rows : (count : ℕ) (ranges : ℕ → Range) (low high : ℤ) (truths own : BlockTruths) → ((r : ℕ) → r < count → (ranges r).numbers.low ≤ℤ (ranges r).numbers.high) →
    AreTruthsFrom 0 count (λ r. both_ends (ranges r) low high) truths →
    ((r : ℕ) → bit_in r own.may_hold ≡ (int_le low high && bit_in r truths.may_hold)) → own.may_fail ≡ truths.may_fail → own.may_be_null ≡ truths.may_be_null →
    AreTruthsFrom 0 count (λ r. truths_over (ranges r) (between low high)) own
between_rows count ranges low high truths own ordered told hold fail null = λ r from few. record {
  hold = hold r ∙ ap (λ b. int_le low high && b) (told r from few).hold ∙ may_lie (ranges r) low high (ordered r few);
  fail = ap (bit_in r) fail ∙ (told r from few).fail ∙ may_lie_outside (ranges r) low high (ordered r few);
  null = ap (bit_in r) null ∙ (told r from few).null ∙ null_where (ranges r) low high;
}
