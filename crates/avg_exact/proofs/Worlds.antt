-- From choices of outcomes to completions.
use Rattle.std.proofs.Common.{◌≡◌, ◌≢◌, ℕ, zero, suc, ◌+◌, ◌<◌, ℤ, int_le, Bool, true, false, cond, not, ◌&&◌, ◌||◌, List, [], ◌∷◌, map, refl, arith, filter, filter_map, IsTrue, IsFalse, Option, Some, None, subst, sym, ap, ◌∙◌, ◌⊎◌, inl, inr}
use Rattle.std.specs.List.{cons_option, range_with_len}
use Rattle.std.specs.Option.{option_map}
use Rattle.std.proofs.lemmas.Bool.{cases_Bool, true≢false}
use Rattle.std.proofs.lemmas.Int.{ints}
use Rattle.daq_table.specs.Tables.{Cells, Frame, row_of}
use Rattle.query_model.specs.declared.bounds.Nullity.TheVariants.{Always}
use Rattle.query_model.specs.Queries.{Aggregate, Query}
use Rattle.query_model.specs.declared.query.ItemKind.TheVariants.{Sum}
use Rattle.query_model.specs.Answers.{average, average_of, outcome_of, values_of}
use Rattle.query_model.specs.Bounds.{AdmitsAverage, Pair, nullity_of, pair_of, pairs}
use Rattle.query_model.specs.Knowledge.{IsAllRead, IsCompletion, IsKnowledge, Knowledge, ranges_of}
use Rattle.query_model.specs.Laws.{AreOutcomes, IsEndOrLeftOut, IsEndOutcome, present}
use Rattle.query_model.specs.Attaining.{AttainsEnds}
use Rattle.query_model.specs.Truths.{Ranges}
use Rattle.query_model.specs.Validity.{declared_ranges}
use Rattle.query_model.proofs.Exact.{AreSure, sure_from}
use Rattle.query_model.proofs.Nesting.{bounds_nest, choices_are_older, taken_is_knowledge}
use Rattle.query_model.proofs.Queries.{bounds_are_extremes, filter_map_same, pairs_ordered, rows_reach_ends, values_chosen}
use Rattle.avg_exact.specs.ExactAverages.{Choice, Cut, ends_of, exact_of, exact_under, high_end, low_end, negated, negative, takes}
use Rattle.avg_exact.specs.Laws.{ExactAveragesAreExtremes, ExactAveragesContain, ExactAveragesNest}
use Rattle.avg_exact.specs.Promises.{high_given, low_given, takes_low}
use Rattle.avg_exact.proofs.Cuts.{le_holds, le_is}
use Rattle.avg_exact.proofs.HighEnds.{best_cut, counts_rows}
use Rattle.avg_exact.proofs.ListEnds.{certain_counted, counted_high, counted_low, exact_admits, exact_averages_are_extremes_of_lists, exact_nested, given_end, given_where, high_average, low_average, word_of_sum}

pub exact_averages_contain : ExactAveragesContain
exact_averages_contain query item frame known cells k h =
    let give = values_chosen query item [] frame known cells k h in
    let ps = pairs query item [] frame known in
    subst (λ values. AdmitsAverage (ends_of (exact_of ps)) (average values)) give.2 (exact_admits ps give.0 give.1)

-- the same item as a sum
abbrev pub as_sum : Aggregate → Aggregate
as_sum item = record item { kind = Sum }

-- it attains its ends where the average does
pub sum_attains : (query : Query) (item : Aggregate) (ranges : Ranges) → AttainsEnds query item ranges → AttainsEnds query (as_sum item) ranges
sum_attains query item ranges attains = record { rows = attains.rows; apart = attains.apart; argument = attains.argument }

pub exact_averages_nest : ExactAveragesNest
exact_averages_nest query item frame known c bits k t =
    exact_nested (pairs query item [] frame known) _ (pairs_ordered query item [] frame _ (taken_is_knowledge frame known c bits k t))
    (bounds_nest query (as_sum item) [] frame known c bits (λ e. cc) k t)
    (choices_are_older query item [] frame known c bits k t)

-- ---- the rows that an end takes give its average

-- what rows give by their pairs is what their list gives
values_given : (given : Option Pair → Option ℤ) (test : Pair → Bool) (value : Pair → ℤ) (pair : ℕ → Option Pair) →
    given None ≡ None → ((p : Pair) → given (Some p) ≡ given_where test value p) → (a n : ℕ) →
    filter_map (λ r. given (pair r)) (range_with_len a n) ≡ map value (filter test (filter_map pair (range_with_len a n)))
values_given given test value pair none some a zero = refl
values_given given test value pair none some a (suc n) =
    one (pair a) (filter_map (λ r. given (pair r)) (range_with_len (a + 1) n)) (filter_map pair (range_with_len (a + 1) n))
    (values_given given test value pair none some (a + 1) n)
  where
    by_test : (p : Pair) (b : Bool) (ps : List Pair) → cons_option (cond b (Some (value p)) None) (map value (filter test ps)) ≡ map value (cond b (p ∷ filter test ps) (filter test ps))
    by_test p true ps = refl
    by_test p false ps = refl

    one : (o : Option Pair) (vs : List ℤ) (ps : List Pair) → vs ≡ map value (filter test ps) → cons_option (given o) vs ≡ map value (filter test (cons_option o ps))
    one None vs ps e = ap (λ g. cons_option g vs) none ∙ e
    one (Some p) vs ps e = ap (λ g. cons_option g vs) (some p) ∙ ap (cons_option (given_where test value p)) e ∙ by_test p (test p) ps

-- a rule by which each row of a completion gives a value
pub record GivesIn (query : Query) (item : Aggregate) (frame : Frame) (known : Knowledge) (given : Option Pair → Option ℤ) (cells : Cells) : Type 0 where
  pub completes : IsCompletion frame known cells
  pub rows : (r : ℕ) → r < frame.rows → outcome_of query item [] (row_of frame cells r) ≡ given (pair_of query item [] (ranges_of frame known r))

left_out_or_end : (given : Option Pair → Option ℤ) (test : Pair → Bool) (value : Pair → ℤ) → given None ≡ None → ((p : Pair) → given (Some p) ≡ given_where test value p) →
    ((p : Pair) → IsEndOutcome p (given_where test value p)) → (o : Option Pair) → IsEndOrLeftOut o (given o)
left_out_or_end given test value none some ends None = none
left_out_or_end given test value none some ends (Some p) = subst (IsEndOutcome p) (sym (some p)) (ends p)

-- some completion goes by the rule, and its values are those of the list
abbrev RuleHolds : Query → Aggregate → Frame → Knowledge → (Option Pair → Option ℤ) → (Pair → Bool) → (Pair → ℤ) → Type 0
RuleHolds query item frame known given test value =
    (cells : Cells) × GivesIn query item frame known given cells
    × (average_of query item [] frame cells ≡ average (map value (filter test (pairs query item [] frame known))))

rule_holds : (query : Query) (item : Aggregate) (frame : Frame) (known : Knowledge) (given : Option Pair → Option ℤ) (test : Pair → Bool) (value : Pair → ℤ) →
    AttainsEnds query item (declared_ranges frame) → IsKnowledge frame known → given None ≡ None → ((p : Pair) → given (Some p) ≡ given_where test value p) →
    ((p : Pair) → IsEndOutcome p (given_where test value p)) → RuleHolds query item frame known given test value
rule_holds query item frame known given test value attains k none some ends =
    let pair = λ (r : ℕ). pair_of query item [] (ranges_of frame known r) in
    let found = rows_reach_ends query item [] frame known (λ r. given (pair r)) attains k (λ r r_in. left_out_or_end given test value none some ends (pair r)) in (
      found.0,
      record { completes = found.1; rows = found.2 },
      ap average (filter_map_same (λ r. outcome_of query item [] (row_of frame found.0 r)) (λ r. given (pair r)) 0 frame.rows (λ r low high. found.2 r (omega arith))
          ∙ values_given given test value pair none some 0 frame.rows),
    )

-- negated, the rows at most a cut are those at least its negation
takes_negated : (c : Cut) (p : Pair) → takes_low (option_map negative c) p ≡ takes c (negated p)
takes_negated None p = refl
takes_negated (Some h) p = ap (λ b. not p.certain && b) (turned p.low h (cases_Bool (int_le p.low (negative h))) (cases_Bool (int_le h (negative p.low))))
  where
    turned : (a b : ℤ) → IsTrue (int_le a (negative b)) ⊎ IsFalse (int_le a (negative b)) → IsTrue (int_le b (negative a)) ⊎ IsFalse (int_le b (negative a)) →
        int_le a (negative b) ≡ int_le b (negative a)
    turned a b (inl t) (inl u) = t ∙ sym u
    turned a b (inl t) (inr f) = absurd (let h = le_holds a (negative b) t in true≢false (sym (le_is b (negative a) (omega (arith, ints))) ∙ f))
    turned a b (inr f) (inl t) = absurd (let h = le_holds b (negative a) t in true≢false (sym (le_is a (negative b) (omega (arith, ints))) ∙ f))
    turned a b (inr f) (inr g) = f ∙ sym g

-- some completion goes by the rule of an end, and its average is that end
abbrev pub EndHolds : Query → Aggregate → Frame → Knowledge → (Option Pair → Option ℤ) → ℤ → ℕ → Type 0
EndHolds query item frame known given s n =
    (cells : Cells) × GivesIn query item frame known given cells × (average_of query item [] frame cells ≡ Some (s, n))

high_of_list : (query : Query) (item : Aggregate) (frame : Frame) (known : Knowledge) (ps : List Pair) → pairs query item [] frame known ≡ ps →
    AttainsEnds query item (declared_ranges frame) → IsKnowledge frame known → nullity_of ps ≢ Always →
    EndHolds query item frame known (high_given (high_end ps).cut) (high_end ps).sum (high_end ps).rows
high_of_list query item frame known [] e attains k w = absurd (w refl)
high_of_list query item frame known (p ∷ ps) e attains k w =
    let best = best_cut p ps in
    let holds = rule_holds query item frame known (high_given best.0) (counted_high best.0) (λ p. p.high) attains k refl (λ p. refl)
    (λ p. given_end (counted_high best.0) (λ p. p.high) p (inr refl) (certain_counted p.certain (takes best.0 p))) in
    subst (λ (b : Choice). EndHolds query item frame known (high_given b.cut) b.sum b.rows) (sym best.1.best) (
      holds.0,
      holds.1,
      holds.2 ∙ ap (λ qs. average (map (λ p. p.high) (filter (counted_high best.0) qs))) e ∙ high_average (p ∷ ps) best.0 (counts_rows (p ∷ ps) best.0 best.1.tried),
    )

low_of_list : (query : Query) (item : Aggregate) (frame : Frame) (known : Knowledge) (ps : List Pair) → pairs query item [] frame known ≡ ps →
    AttainsEnds query item (declared_ranges frame) → IsKnowledge frame known → nullity_of ps ≢ Always →
    EndHolds query item frame known (low_given (low_end ps).cut) (low_end ps).sum (low_end ps).rows
low_of_list query item frame known [] e attains k w = absurd (w refl)
low_of_list query item frame known (p ∷ ps) e attains k w =
    let best = best_cut (negated p) (map negated ps) in
    let cut = option_map negative best.0 in
    let holds = rule_holds query item frame known (low_given cut) (counted_low best.0) (λ p. p.low) attains k refl
    (λ p. ap (λ b. cond (p.certain || b) (Some p.low) None) (takes_negated best.0 p))
    (λ p. given_end (counted_low best.0) (λ p. p.low) p (inl refl) (certain_counted p.certain (takes best.0 (negated p)))) in
    subst (λ (b : Choice). EndHolds query item frame known (low_given (option_map negative b.cut)) (negative b.sum) b.rows) (sym best.1.best) (
      holds.0,
      holds.1,
      holds.2 ∙ ap (λ qs. average (map (λ p. p.low) (filter (counted_low best.0) qs))) e
          ∙ low_average (p ∷ ps) best.0 (counts_rows (map negated (p ∷ ps)) best.0 best.1.tried),
    )

pub high_holds : (query : Query) (item : Aggregate) (frame : Frame) (known : Knowledge) → AttainsEnds query item (declared_ranges frame) → IsKnowledge frame known →
    (exact_under query item frame known).null ≢ Always →
    EndHolds query item frame known (high_given (exact_under query item frame known).high_cut) (exact_under query item frame known).hi.num (exact_under query item frame known).hi.den
high_holds query item frame known attains k w = high_of_list query item frame known (pairs query item [] frame known) refl attains k w

pub low_holds : (query : Query) (item : Aggregate) (frame : Frame) (known : Knowledge) → AttainsEnds query item (declared_ranges frame) → IsKnowledge frame known →
    (exact_under query item frame known).null ≢ Always →
    EndHolds query item frame known (low_given (exact_under query item frame known).low_cut) (exact_under query item frame known).lo.num (exact_under query item frame known).lo.den
low_holds query item frame known attains k w = low_of_list query item frame known (pairs query item [] frame known) refl attains k w

pub exact_averages_are_extremes : ExactAveragesAreExtremes
exact_averages_are_extremes query item frame known attains k =
    let sums = bounds_are_extremes query (as_sum item) [] frame known (λ e. cc) (sum_attains query item (declared_ranges frame) attains) k in
    record {
      admits = λ cells h. exact_averages_contain query item frame known cells k h;
      null = word_of_sum (IsCompletion frame known) (λ cells. values_of query item [] frame cells) (exact_under query item frame known).null sums.null;
      lo = λ w. (let found = low_holds query item frame known attains k w in (found.0, found.1.completes, found.2));
      hi = λ w. (let found = high_holds query item frame known attains k w in (found.0, found.1.completes, found.2));
    }

-- ---- everything read

sure_choice : (ps : List Pair) (os : List (Option ℤ)) → AreSure ps → AreOutcomes ps os → present os ≡ map (λ p. p.low) ps
sure_choice [] [] s h = refl
sure_choice [] (o ∷ os) s h = absurd h
sure_choice (p ∷ ps) [] s h = absurd h
sure_choice (p ∷ ps) (None ∷ os) s h = absurd (true≢false (sym s.0 ∙ h.0))
sure_choice (p ∷ ps) (Some v ∷ os) s h =
    let one = s.1 in
    let low = h.0.0 in
    let high = h.0.1 in
    let same : v ≡ p.low = omega (arith, ints) in
    ap (λ x. x ∷ present os) same ∙ ap (λ vs. p.low ∷ vs) (sure_choice ps os s.2 h.1)

-- both ends are the average
pub exact_average_is : (query : Query) (item : Aggregate) (frame : Frame) (known : Knowledge) (cells : Cells) →
    IsKnowledge frame known → IsAllRead frame known → IsCompletion frame known cells → (exact_under query item frame known).null ≢ Always →
    (average_of query item [] frame cells ≡ Some ((exact_under query item frame known).lo.num, (exact_under query item frame known).lo.den))
    × (average_of query item [] frame cells ≡ Some ((exact_under query item frame known).hi.num, (exact_under query item frame known).hi.den))
exact_average_is query item frame known cells k all h w =
    let ps = pairs query item [] frame known in
    let sure = sure_from query item [] frame known 0 frame.rows k all (omega arith) in
    let give = values_chosen query item [] frame known cells k h in
    let law = (exact_averages_are_extremes_of_lists ps (pairs_ordered query item [] frame known k)).0 in
    let lo = law.lo w in
    let hi = law.hi w in
    let values = sym give.2 ∙ sure_choice ps give.0 sure give.1 in (
      ap average (values ∙ sym (sure_choice ps lo.0 sure lo.1)) ∙ lo.2,
      ap average (values ∙ sym (sure_choice ps hi.0 sure hi.1)) ∙ hi.2,
    )
