-- What is known of a comparison by the side on which a row stands.
use Rattle.std.proofs.Common.{◌≡◌, ℕ, ℤ, ◌<◌, ◌≤◌, ◌≤ℤ◌, ◌<ℤ◌, Bool, true, false, not, ◌&&◌, ◌||◌, ◌⊎◌, inl, inr, Some, IsTrue, refl, sym, ap, ◌∙◌, subst, arith}
use Rattle.std.specs.Prelude.{int_lt, int_le, nat_abs, ◌-ℤ◌, nat_lt, ◌==◌}
use Rattle.std.specs.Ordering.{int_eq}
use Rattle.std.proofs.lemmas.Bool.{cases_Bool, cases_lt}
use Rattle.std.proofs.lemmas.Bool.Decides.{nat_tests}
use Rattle.std.proofs.lemmas.Int.{ints}
use Rattle.daq_table.specs.declared.head.Ends.{Ends}
use Rattle.interval_calc.specs.Intervals.{Interval, Within, only}
use Rattle.query_model.specs.declared.bounds.Truth.{Truth}
use Rattle.query_model.specs.declared.bounds.Truth.TheVariants.{False, Unknown, True}
use Rattle.query_model.specs.declared.query.Comparison.{Comparison}
use Rattle.query_model.specs.declared.query.Comparison.TheVariants.{Eq, Ne, Lt, Le, Gt, Ge}
use Rattle.query_model.specs.Knowledge.{IsLegal, null_with, prefix_of, range_of}
use Rattle.query_model.specs.Meaning.{compares}
use Rattle.query_model.specs.Truths.{is_false, is_true, may_be_number, truth_from, truth_over}
use Rattle.query_model.proofs.Blocks.{range_gives, range_ordered}
use Rattle.query_model.proofs.Numbers.{high_within, low_within}
use Rattle.known_column.proofs.CodeDigits.{prefix_mono}
use Rattle.kleene_filter.specs.ByEnds.{always_compares, sometimes_compares}
use Rattle.kleene_filter.specs.Parted.{cell_with, fails_at, greater_holds, holds_at, less_holds}
use Rattle.kleene_filter.proofs.TestsByEnds.{against_one, and_false_left, and_false_right, compared_by_ends, eq_fails, le_is}

-- ---- ranges on one side of a number

truth_is : (a s x y : Bool) → a ≡ x → s ≡ y → truth_from a s ≡ truth_from x y
truth_is a s x y e f = ap (λ v. truth_from v s) e ∙ ap (truth_from x) f

lt_is : (a b : ℤ) → a <ℤ b → int_lt a b ≡ true
lt_is a b h = grind (arith, ints)

lt_not : (a b : ℤ) → b ≤ℤ a → int_lt a b ≡ false
lt_not a b h = grind (arith, ints)

le_not : (a b : ℤ) → b <ℤ a → int_le a b ≡ false
le_not a b h = grind (arith, ints)

below_ends : (op : Comparison) (i : Interval) (v : ℤ) → i.low ≤ℤ i.high → i.high <ℤ v → truth_from (always_compares op i (only v)) (sometimes_compares op i (only v)) ≡ truth_from (less_holds op) (less_holds op)
below_ends Eq i v o h =
    truth_is _ _ false false (and_false_left (int_eq i.low v) (int_eq i.high v) (eq_fails i.low v (λ e. (let low : i.low <ℤ v = omega (arith, ints) in omega (arith, ints)))))
    (and_false_right (int_le i.low v) (int_le v i.high) (le_not v i.high h))
below_ends Ne i v o h =
    truth_is _ _ true true (ap not (and_false_right (int_le i.low v) (int_le v i.high) (le_not v i.high h)))
    (ap not (and_false_left (int_eq i.low v) (int_eq i.high v) (eq_fails i.low v (λ e. (let low : i.low <ℤ v = omega (arith, ints) in omega (arith, ints))))))
below_ends Lt i v o h = truth_is _ _ true true (lt_is i.high v h) (lt_is i.low v (omega (arith, ints)))
below_ends Le i v o h = truth_is _ _ true true (le_is i.high v (omega (arith, ints))) (le_is i.low v (omega (arith, ints)))
below_ends Gt i v o h = truth_is _ _ false false (lt_not v i.low (omega (arith, ints))) (lt_not v i.high (omega (arith, ints)))
below_ends Ge i v o h = truth_is _ _ false false (le_not v i.low (omega (arith, ints))) (le_not v i.high h)

above_ends : (op : Comparison) (i : Interval) (v : ℤ) → i.low ≤ℤ i.high → v <ℤ i.low → truth_from (always_compares op i (only v)) (sometimes_compares op i (only v)) ≡ truth_from (greater_holds op) (greater_holds op)
above_ends Eq i v o h =
    truth_is _ _ false false (and_false_left (int_eq i.low v) (int_eq i.high v) (eq_fails i.low v (λ e. omega (arith, ints))))
    (and_false_left (int_le i.low v) (int_le v i.high) (le_not i.low v h))
above_ends Ne i v o h =
    truth_is _ _ true true (ap not (and_false_left (int_le i.low v) (int_le v i.high) (le_not i.low v h)))
    (ap not (and_false_left (int_eq i.low v) (int_eq i.high v) (eq_fails i.low v (λ e. omega (arith, ints)))))
above_ends Lt i v o h = truth_is _ _ false false (lt_not i.high v (omega (arith, ints))) (lt_not i.low v (omega (arith, ints)))
above_ends Le i v o h = truth_is _ _ false false (le_not i.high v (omega (arith, ints))) (le_not i.low v h)
above_ends Gt i v o h = truth_is _ _ true true (lt_is v i.low h) (lt_is v i.high (omega (arith, ints)))
above_ends Ge i v o h = truth_is _ _ true true (le_is v i.low (omega (arith, ints))) (le_is v i.high (omega (arith, ints)))

less_truth : (op : Comparison) (i : Interval) (v : ℤ) → i.low ≤ℤ i.high → i.high <ℤ v → truth_over i (λ x. compares op x v) ≡ truth_from (less_holds op) (less_holds op)
less_truth op i v o h = sym (against_one op i v o) ∙ compared_by_ends op i (only v) o (omega (arith, ints)) ∙ below_ends op i v o h

greater_truth : (op : Comparison) (i : Interval) (v : ℤ) → i.low ≤ℤ i.high → v <ℤ i.low → truth_over i (λ x. compares op x v) ≡ truth_from (greater_holds op) (greater_holds op)
greater_truth op i v o h = sym (against_one op i v o) ∙ compared_by_ends op i (only v) o (omega (arith, ints)) ∙ above_ends op i v o h

-- ---- what the side tells

-- at a row that passed or not, and has the number's own prefix or not
pub record IsTold (at_equal truth : Truth) (passed equal : Bool) : Type 0 where
  pub hold : holds_at at_equal passed equal ≡ not (is_false truth)
  pub fail : fails_at at_equal passed equal ≡ not (is_true truth)

-- a test that holds for all numbers of a range or for none
told_one : (b : Bool) (at_equal : Truth) → IsTold at_equal (truth_from b b) b false
told_one true False = record { hold = refl; fail = refl }
told_one true Unknown = record { hold = refl; fail = refl }
told_one true True = record { hold = refl; fail = refl }
told_one false False = record { hold = refl; fail = refl }
told_one false Unknown = record { hold = refl; fail = refl }
told_one false True = record { hold = refl; fail = refl }

pub told_side : (b : Bool) (at_equal truth : Truth) → truth ≡ truth_from b b → IsTold at_equal truth b false
told_side b at_equal truth e = subst (λ t. IsTold at_equal t b false) (sym e) (told_one b at_equal)

told_level : (at_equal : Truth) → IsTold at_equal at_equal false true
told_level False = record { hold = refl; fail = refl }
told_level Unknown = record { hold = refl; fail = refl }
told_level True = record { hold = refl; fail = refl }

told_equal : (at_equal truth : Truth) → truth ≡ at_equal → IsTold at_equal truth false true
told_equal at_equal truth e = subst (λ t. IsTold at_equal t false true) (sym e) (told_level at_equal)

-- ---- numbers by their prefixes

int_cases : (a b : ℤ) → (a <ℤ b) ⊎ (b ≤ℤ a)
int_cases a b =
    elim (cases_Bool (int_lt a b)) [
      | inl t ↦ inl (grind (arith, ints))
      | inr f ↦ inr (grind (arith, ints))
    ]

nat_cases : (p m : ℕ) → ((nat_lt p m ≡ true) × ((p == m) ≡ false) × (nat_lt m p ≡ false) × (p < m)) ⊎ (((nat_lt p m ≡ false) × ((p == m) ≡ true) × (nat_lt m p ≡ false) × (p ≡ m)) ⊎ ((nat_lt p m ≡ false) × ((p == m) ≡ false) × (nat_lt m p ≡ true) × (m < p)))
nat_cases p m =
    elim (cases_lt p m) [
      | inl less ↦ inl (grind (arith, nat_tests), grind (arith, nat_tests), grind (arith, nat_tests), less)
      | inr up ↦ elim (cases_lt m p) [
        | inl greater ↦ inr (inr (grind (arith, nat_tests), grind (arith, nat_tests), grind (arith, nat_tests), greater))
        | inr down ↦ inr (inl (grind (arith, nat_tests), grind (arith, nat_tests), grind (arith, nat_tests), omega arith))
      ]
    ]

-- a number of the range of a prefix has that prefix
pub has_prefix : (ends : Ends) (read p : ℕ) (x : ℤ) → IsLegal ends read p → IsTrue (may_be_number (null_with ends read p)) → Within (range_of ends read p).numbers x → prefix_of ends read (cell_with x ends) ≡ p
has_prefix ends read p x legal some within = (range_gives ends read p (Some x) legal (some, within)).2

-- its prefix tells on which side of another it stands
below_value : (ends : Ends) (read p : ℕ) (v : ℤ) → IsLegal ends read p → IsTrue (may_be_number (null_with ends read p)) → ends.base ≤ℤ v → p < prefix_of ends read (cell_with v ends) → (range_of ends read p).numbers.high <ℤ v
below_value ends read p v legal some above less =
    let i = (range_of ends read p).numbers in
    let ordered = range_ordered ends read p legal in
    let own = has_prefix ends read p i.high legal some (high_within i ordered) in
    elim (int_cases i.high v) [
      | inl h ↦ h
      | inr h ↦ (let more : nat_abs (v -ℤ ends.base) ≤ nat_abs (i.high -ℤ ends.base) = omega (arith, ints) in
          absurd (omega (arith, own, less, prefix_mono ends read (nat_abs (v -ℤ ends.base)) (nat_abs (i.high -ℤ ends.base)) more)))
    ]

above_value : (ends : Ends) (read p : ℕ) (v : ℤ) → IsLegal ends read p → IsTrue (may_be_number (null_with ends read p)) → prefix_of ends read (cell_with v ends) < p → v <ℤ (range_of ends read p).numbers.low
above_value ends read p v legal some greater =
    let i = (range_of ends read p).numbers in
    let ordered = range_ordered ends read p legal in
    let own = has_prefix ends read p i.low legal some (low_within i ordered) in
    let base : ends.base ≤ℤ i.low = omega (arith, ints) in
    elim (int_cases v i.low) [
      | inl h ↦ h
      | inr h ↦ (let more : nat_abs (i.low -ℤ ends.base) ≤ nat_abs (v -ℤ ends.base) = omega (arith, ints) in
          absurd (omega (arith, own, greater, prefix_mono ends read (nat_abs (i.low -ℤ ends.base)) (nat_abs (v -ℤ ends.base)) more)))
    ]

-- ---- each side

pub told_all_less : (ends : Ends) (read p : ℕ) (op : Comparison) (v : ℤ) (at_equal : Truth) → IsLegal ends read p → ends.top <ℤ v → IsTold at_equal (truth_over (range_of ends read p).numbers (λ x. compares op x v)) (less_holds op) false
told_all_less ends read p op v at_equal legal past =
    let i = (range_of ends read p).numbers in
    let order = ends.ordered in
    let high : i.high ≤ℤ ends.top = omega (arith, ints) in
    told_side (less_holds op) at_equal (truth_over i (λ x. compares op x v)) (less_truth op i v (range_ordered ends read p legal) (omega (arith, ints)))

pub told_all_greater : (ends : Ends) (read p : ℕ) (op : Comparison) (v : ℤ) (at_equal : Truth) → IsLegal ends read p → v <ℤ ends.base → IsTold at_equal (truth_over (range_of ends read p).numbers (λ x. compares op x v)) (greater_holds op) false
told_all_greater ends read p op v at_equal legal past =
    let i = (range_of ends read p).numbers in
    let low : ends.base ≤ℤ i.low = omega (arith, ints) in
    told_side (greater_holds op) at_equal (truth_over i (λ x. compares op x v)) (greater_truth op i v (range_ordered ends read p legal) (omega (arith, ints)))

-- the row passes, where it is less, greater, or neither
passes_less : (l g x z : Bool) → x ≡ true → z ≡ false → ((l && x) || (g && z)) ≡ l
passes_less true g x z e f = ap (λ v. v || (g && z)) e
passes_less false true x z e f = f
passes_less false false x z e f = refl

passes_greater : (l g x z : Bool) → x ≡ false → z ≡ true → ((l && x) || (g && z)) ≡ g
passes_greater true true x z e f = ap (λ v. v || z) e ∙ f
passes_greater true false x z e f = ap (λ v. v || false) e
passes_greater false true x z e f = f
passes_greater false false x z e f = refl

passes_neither : (l g x z : Bool) → x ≡ false → z ≡ false → ((l && x) || (g && z)) ≡ false
passes_neither true true x z e f = ap (λ v. v || z) e ∙ f
passes_neither true false x z e f = ap (λ v. v || false) e
passes_neither false true x z e f = f
passes_neither false false x z e f = refl

-- by the prefix of the row, where m is that of the number
pub told_parted : (ends : Ends) (read p m : ℕ) (op : Comparison) (v : ℤ) (at_equal : Truth) → IsLegal ends read p → IsTrue (may_be_number (null_with ends read p)) → ends.base ≤ℤ v → prefix_of ends read (cell_with v ends) ≡ m →
    ((p == m) ≡ true → truth_over (range_of ends read p).numbers (λ x. compares op x v) ≡ at_equal) →
    IsTold at_equal (truth_over (range_of ends read p).numbers (λ x. compares op x v)) ((less_holds op && nat_lt p m) || (greater_holds op && nat_lt m p)) (p == m)
told_parted ends read p m op v at_equal legal some above is same =
    let i = (range_of ends read p).numbers in
    let truth = truth_over i (λ x. compares op x v) in
    let ordered = range_ordered ends read p legal in
    let l = less_holds op in
    let g = greater_holds op in
    elim (nat_cases p m) [
      | inl less ↦ subst (λ e. IsTold at_equal truth ((l && nat_lt p m) || (g && nat_lt m p)) e) (sym (less.1)) (subst (λ b. IsTold at_equal truth b false) (sym (passes_less l g (nat_lt p m) (nat_lt m p) less.0 less.2))
          (told_side l at_equal truth (less_truth op i v ordered (below_value ends read p v legal some above (omega (arith, less.3, is))))))
      | inr rest ↦ elim rest [
        | inl level ↦ subst (λ e. IsTold at_equal truth ((l && nat_lt p m) || (g && nat_lt m p)) e) (sym (level.1)) (subst (λ b. IsTold at_equal truth b true) (sym (passes_neither l g (nat_lt p m) (nat_lt m p) level.0 level.2))
            (told_equal at_equal truth (same level.1)))
        | inr greater ↦ subst (λ e. IsTold at_equal truth ((l && nat_lt p m) || (g && nat_lt m p)) e) (sym (greater.1)) (subst (λ b. IsTold at_equal truth b false) (sym (passes_greater l g (nat_lt p m) (nat_lt m p) greater.0 greater.2))
            (told_side g at_equal truth (greater_truth op i v ordered (above_value ends read p v legal some (omega (arith, greater.3, is))))))
      ]
    ]
