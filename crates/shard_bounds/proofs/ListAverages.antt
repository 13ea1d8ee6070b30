-- The bound of the average of a list of rows looks exact only where it says the sum and the number.
use Rattle.std.proofs.Common.{◌≡◌, ℕ, max, ℤ, pos, ◌≤ℤ◌, int_le, Bool, true, false, cond, ◌==◌, List, [], ◌∷◌, length, refl, arith, subst, sym, ap, ◌∙◌, IsTrue, Option}
use Rattle.std.proofs.lemmas.Bool.{true≢false, false≢true, and_parts}
use Rattle.std.proofs.lemmas.Int.{ints}
use Rattle.interval_calc.specs.Intervals.{Fraction}
use Rattle.query_model.specs.declared.bounds.Nullity.TheVariants.{Never, Possibly}
use Rattle.query_model.specs.Answers.{total, unless_empty}
use Rattle.query_model.specs.Bounds.{Pair, some_certain, certain_count, least_sum, greatest_sum, average_bound_of}
use Rattle.query_model.specs.Laws.{AreOutcomes, present}
use Rattle.query_model.proofs.Averages.{average_bounds_admit_lists}
use Rattle.query_model.proofs.Integers.{equal_when}
use Rattle.query_model.proofs.ListBounds.{choice_of_certain, least_sum_below, greatest_sum_above, counts_within, no_value_of_none}
use Rattle.shard_bounds.specs.Averages.{is_exact, exact_by, TellsAverage}
use Rattle.shard_bounds.specs.Laws.{ListsReportAverages}

pub exact_is_certain : (s b : Bool) → IsTrue (exact_by (cond s Never Possibly) b) → (IsTrue s × IsTrue b)
exact_is_certain true b t = (refl, t)
exact_is_certain false b t = absurd (false≢true t)

pub same_divisors : (b : Bool) (few many : ℕ) → cond b many few ≡ cond b few many → few ≡ many
same_divisors true few many e = sym e
same_divisors false few many e = e

pub divisor_is : (b : Bool) (few many n : ℕ) → few ≡ n → many ≡ n → cond b many few ≡ n
divisor_is true few many n e f = f
divisor_is false few many n e f = e

pub same_number : (m n : ℕ) → IsTrue (m == n) → m ≡ n
same_number m n t = grind arith

tells_by : (ps : List Pair) (os : List (Option ℤ)) (values : List ℤ) → AreOutcomes ps os → present os ≡ values → IsTrue (is_exact (average_bound_of ps)) →
    TellsAverage (average_bound_of ps) (unless_empty values (total values, length values))
tells_by [] os [] h e t = refl
tells_by [] os (v ∷ vs) h e t = absurd (no_value_of_none os v vs h e)
tells_by (p ∷ ps) os [] h e t =
    let s = exact_is_certain (some_certain (p ∷ ps)) _ t in
    absurd (true≢false (sym s.0 ∙ choice_of_certain (p ∷ ps) os h e))
tells_by (p ∷ ps) os (v ∷ vs) h e t =
    let all = p ∷ ps in
    let s = exact_is_certain (some_certain all) _ t in
    let same = and_parts _ _ s.1 in
    let sums : least_sum all ≡ greatest_sum all = equal_when (least_sum all) (greatest_sum all) same.0 in
    let few = max (certain_count all) 1 in
    let divisors = same_number _ _ same.1 in
    let one : few ≡ length all =
    same_divisors (int_le (pos 0) (least_sum all)) few (length all) (divisors ∙ ap (λ z. cond (int_le (pos 0) z) few (length all)) (sym sums)) in
    let counts = counts_within all os h in
    let at_least = counts.0 in
    let at_most = counts.1 in
    let long = ap length e in
    let low : least_sum all ≤ℤ total (v ∷ vs) = subst (λ xs. least_sum all ≤ℤ total xs) e (least_sum_below all os v vs h e) in
    let high : total (v ∷ vs) ≤ℤ greatest_sum all = subst (λ xs. total xs ≤ℤ greatest_sum all) e (greatest_sum_above all os v vs h e) in
    let many_is : length all ≡ length (v ∷ vs) = omega arith in
    let few_is : few ≡ length (v ∷ vs) = one ∙ many_is in
    let make : ℤ → ℕ → Fraction = λ n d. record { num = n; den = d } in
    let low_is : least_sum all ≡ total (v ∷ vs) = omega (arith, ints) in
    let high_is : greatest_sum all ≡ total (v ∷ vs) = omega (arith, ints) in (
      ap (λ b. cond b Never Possibly) s.0,
      ap (λ n. make n (cond (int_le (pos 0) (least_sum all)) (length all) few)) low_is ∙ ap (make (total (v ∷ vs))) (divisor_is (int_le (pos 0) (least_sum all)) few (length all) (length (v ∷ vs)) few_is many_is),
      ap (λ n. make n (cond (int_le (pos 0) (greatest_sum all)) few (length all))) high_is ∙ ap (make (total (v ∷ vs))) (divisor_is (int_le (pos 0) (greatest_sum all)) (length all) few (length (v ∷ vs)) many_is few_is),
    )

pub lists_report_averages : ListsReportAverages
lists_report_averages ps os ordered c = record { admits = average_bounds_admit_lists ps os ordered c; tells = tells_by ps os (present os) c refl }
