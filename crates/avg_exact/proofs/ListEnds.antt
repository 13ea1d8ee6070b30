-- The exact average of a list of pairs is the extremes over the choices of one outcome for each pair.
use Rattle.std.proofs.Common.{◌≡◌, ◌≢◌, ℕ, suc, ◌≤◌, ℤ, pos, ◌*ℤ◌, ◌≤ℤ◌, Bool, true, false, cond, ◌||◌, List, [], ◌∷◌, length, map, refl, arith, filter, IsTrue, Option, Some, None, subst, sym, ap, ◌∙◌, inl, inr}
use Rattle.std.specs.Option.{option_map}
use Rattle.std.proofs.lemmas.Bool.{cond_both, cases_Bool, false≢true, true≢false}
use Rattle.std.proofs.lemmas.Int.{ints}
use Rattle.query_model.specs.declared.bounds.Nullity.{Nullity}
use Rattle.query_model.specs.declared.bounds.Nullity.TheVariants.{Never, Possibly, Always}
use Rattle.query_model.specs.declared.query.ItemKind.TheVariants.{Sum}
use Rattle.query_model.specs.Answers.{answer, average, total, unless_empty}
use Rattle.query_model.specs.Bounds.{AdmitsAverage, IsNested, IsNestedAverage, Pair, WordIsRight, average_bound_of, bound_of, highs, lows, nullity_of}
use Rattle.query_model.specs.Laws.{AreEndOutcomes, AreOutcomes, ArePairs, IsEndOutcome, present}
use Rattle.query_model.proofs.Averages.{average_bounds_admit_lists}
use Rattle.query_model.proofs.ListBounds.{always_admits, never_admits, no_value_of_none}
use Rattle.query_model.proofs.ListExtremes.{bounds_are_extremes_of_lists, choice_from_ends}
use Rattle.avg_exact.specs.ExactAverages.{Choice, Cut, choice_of, ends_of, exact_of, high_end, low_end, negated, negative, rows_counted, takes}
use Rattle.avg_exact.specs.Laws.{ExactAveragesAreExtremesOfLists, ExactAveragesLieWithin}
use Rattle.avg_exact.proofs.Fractions.{negative_times}
use Rattle.avg_exact.proofs.Gains.{with_certain}
use Rattle.avg_exact.proofs.HighEnds.{best_cut, counts_rows, outcomes_below}

-- ---- negated values

negated_outcomes : (ps : List Pair) (os : List (Option ℤ)) → AreOutcomes ps os → AreOutcomes (map negated ps) (map (option_map negative) os)
negated_outcomes [] [] h = tt
negated_outcomes [] (o ∷ os) h = absurd h
negated_outcomes (p ∷ ps) [] h = absurd h
negated_outcomes (p ∷ ps) (None ∷ os) h = (h.0, negated_outcomes ps os h.1)
negated_outcomes (p ∷ ps) (Some v ∷ os) h =
    let low = h.0.0 in
    let high = h.0.1 in
    ((omega (arith, ints), omega (arith, ints)), negated_outcomes ps os h.1)

present-negated : (os : List (Option ℤ)) → present (map (option_map negative) os) ≡ map negative (present os)
present-negated [] = refl
present-negated (None ∷ os) = present-negated os
present-negated (Some v ∷ os) = ap (λ vs. negative v ∷ vs) (present-negated os)

pub total-negative : (vs : List ℤ) → total (map negative vs) ≡ negative (total vs)
total-negative [] = refl
total-negative (v ∷ vs) = (let rest = total-negative vs in omega (arith, ints))

length-same : {A B : Type 0} (f : A → B) (xs : List A) → length (map f xs) ≡ length xs
length-same f [] = refl
length-same f (x ∷ xs) = ap suc (length-same f xs)

-- no choice of outcomes has an average below the low end
outcomes_above : (p : Pair) (ps : List Pair) (os : List (Option ℤ)) → AreOutcomes (p ∷ ps) os →
    ((low_end (p ∷ ps)).sum *ℤ pos (length (present os))) ≤ℤ (total (present os) *ℤ pos (low_end (p ∷ ps)).rows)
outcomes_above p ps os h =
    let high = high_end (map negated (p ∷ ps)) in
    let values = present os in
    let below = outcomes_below (negated p) (map negated ps) (map (option_map negative) os) (negated_outcomes (p ∷ ps) os h) in
    let turned : (total (map negative values) *ℤ pos high.rows) ≤ℤ (high.sum *ℤ pos (length (map negative values))) =
    subst (λ vs. (total vs *ℤ pos high.rows) ≤ℤ (high.sum *ℤ pos (length vs))) (present-negated os) below in
    let plain : (negative (total values) *ℤ pos high.rows) ≤ℤ (high.sum *ℤ pos (length values)) =
    subst (λ n. (negative (total values) *ℤ pos high.rows) ≤ℤ (high.sum *ℤ pos n)) (length-same negative values)
    (subst (λ t. (t *ℤ pos high.rows) ≤ℤ (high.sum *ℤ pos (length (map negative values)))) (total-negative values) turned) in
    let left = negative_times high.sum (length values) in
    let right = negative_times (total values) high.rows in
    omega (arith, ints)

-- ---- the ends admit each choice

admits_by_values : (ps : List Pair) (os : List (Option ℤ)) (values : List ℤ) → AreOutcomes ps os → present os ≡ values →
    AdmitsAverage (ends_of (exact_of ps)) (unless_empty values (total values, length values))
admits_by_values [] os [] h e = never_admits [] os h e
admits_by_values [] os (v ∷ vs) h e = absurd (no_value_of_none os v vs h e)
admits_by_values (p ∷ ps) os [] h e = never_admits (p ∷ ps) os h e
admits_by_values (p ∷ ps) os (v ∷ vs) h e = (
  always_admits (p ∷ ps) os v vs h e,
  subst (λ values. ((low_end (p ∷ ps)).sum *ℤ pos (length values)) ≤ℤ (total values *ℤ pos (low_end (p ∷ ps)).rows)) e (outcomes_above p ps os h),
  subst (λ values. (total values *ℤ pos (high_end (p ∷ ps)).rows) ≤ℤ ((high_end (p ∷ ps)).sum *ℤ pos (length values))) e (outcomes_below p ps os h),
)

pub exact_admits : (ps : List Pair) (os : List (Option ℤ)) → AreOutcomes ps os → AdmitsAverage (ends_of (exact_of ps)) (average (present os))
exact_admits ps os h = admits_by_values ps os (present os) h refl

-- ---- the ends are averages of choices of ends

-- each row gives this value where a test holds, else nothing
abbrev pub given_where : (Pair → Bool) → (Pair → ℤ) → Pair → Option ℤ
given_where test value p = cond (test p) (Some (value p)) None

pub present-given : (test : Pair → Bool) (value : Pair → ℤ) (ps : List Pair) → present (map (given_where test value) ps) ≡ map value (filter test ps)
present-given test value [] = refl
present-given test value (p ∷ ps) = elim (cases_Bool (test p)) [
  | inl t ↦ rw t (ap (λ vs. value p ∷ vs) (present-given test value ps))
  | inr f ↦ rw f (present-given test value ps)
]

pub given_end : (test : Pair → Bool) (value : Pair → ℤ) (p : Pair) → IsEndOutcome p (Some (value p)) → (IsTrue p.certain → IsTrue (test p)) →
    IsEndOutcome p (given_where test value p)
given_end test value p end certain =
    cond_both (test p) (Some (value p)) None (IsEndOutcome p) (λ _. end)
    (λ f. elim (cases_Bool p.certain) [ inl c ↦ absurd (true≢false (sym (certain c) ∙ f)) | inr c ↦ c ])

given_ends : (test : Pair → Bool) (value : Pair → ℤ) (ps : List Pair) → ((p : Pair) → IsEndOutcome p (Some (value p))) → ((p : Pair) → IsTrue p.certain → IsTrue (test p)) →
    AreEndOutcomes ps (map (given_where test value) ps)
given_ends test value [] ends certain = tt
given_ends test value (p ∷ ps) ends certain = (given_end test value p (ends p) (certain p), given_ends test value ps ends certain)

pub certain_counted : (c b : Bool) → IsTrue c → IsTrue (c || b)
certain_counted true b t = refl
certain_counted false b t = absurd (false≢true t)

some_average : (vs : List ℤ) (s : ℤ) (n : ℕ) → total vs ≡ s → length vs ≡ n → 1 ≤ n → average vs ≡ Some (s, n)
some_average [] s n e l some = absurd (omega arith)
some_average (v ∷ vs) s n e l some = ap (λ t. one t (length (v ∷ vs))) e ∙ ap (one s) l
  where
    one : ℤ → ℕ → Option (ℤ × ℕ)
    one t m = Some (t, m)

-- the rows that the cut of an end counts
abbrev pub counted_high : Cut → Pair → Bool
counted_high c p = with_certain (takes c) p

abbrev pub counted_low : Cut → Pair → Bool
counted_low c p = with_certain (takes c) (negated p)

pub high_average : (ps : List Pair) (c : Cut) → 1 ≤ length (rows_counted c ps) → average (map (λ p. p.high) (filter (counted_high c) ps)) ≡ Some ((choice_of ps c).sum, (choice_of ps c).rows)
high_average ps c some = some_average (highs (rows_counted c ps)) (choice_of ps c).sum (choice_of ps c).rows refl (length-same (λ p. p.high) (rows_counted c ps)) some

sum_of_negated : (test : Pair → Bool) (ps : List Pair) → total (highs (filter test (map negated ps))) ≡ negative (total (lows (filter (λ p. test (negated p)) ps)))
sum_of_negated test [] = refl
sum_of_negated test (p ∷ ps) =
    let rest = sum_of_negated test ps in
    elim (cases_Bool (test (negated p))) [ inl t ↦ rw t (omega (arith, ints)) | inr f ↦ rw f rest ]

count_of_negated : (test : Pair → Bool) (ps : List Pair) → length (filter test (map negated ps)) ≡ length (filter (λ p. test (negated p)) ps)
count_of_negated test [] = refl
count_of_negated test (p ∷ ps) =
    let rest = count_of_negated test ps in
    elim (cases_Bool (test (negated p))) [ inl t ↦ rw t (ap suc rest) | inr f ↦ rw f rest ]

pub low_average : (ps : List Pair) (c : Cut) → 1 ≤ length (rows_counted c (map negated ps)) →
    average (map (λ p. p.low) (filter (counted_low c) ps)) ≡ Some (negative (choice_of (map negated ps) c).sum, (choice_of (map negated ps) c).rows)
low_average ps c some =
    let sum = sum_of_negated (with_certain (takes c)) ps in
    let count = count_of_negated (with_certain (takes c)) ps in
    some_average (lows (filter (counted_low c) ps)) (negative (choice_of (map negated ps) c).sum) (choice_of (map negated ps) c).rows
    (omega (arith, ints)) (length-same (λ p. p.low) (filter (counted_low c) ps) ∙ sym count) some

-- a choice of ends has this average
abbrev pub EndsAverage : List Pair → ℤ → ℕ → Type 0
EndsAverage ps s n = (os : List (Option ℤ)) × AreEndOutcomes ps os × (average (present os) ≡ Some (s, n))

high_reached : (ps : List Pair) → nullity_of ps ≢ Always → EndsAverage ps (high_end ps).sum (high_end ps).rows
high_reached [] w = absurd (w refl)
high_reached (p ∷ ps) w =
    let all = p ∷ ps in
    let best = best_cut p ps in
    let test = counted_high best.0 in
    subst (λ (e : Choice). EndsAverage all e.sum e.rows) (sym best.1.best) (
      map (given_where test (λ p. p.high)) all,
      given_ends test (λ p. p.high) all (λ p. inr refl) (λ p c. certain_counted p.certain (takes best.0 p) c),
      ap average (present-given test (λ p. p.high) all) ∙ high_average all best.0 (counts_rows all best.0 best.1.tried),
    )

low_reached : (ps : List Pair) → nullity_of ps ≢ Always → EndsAverage ps (low_end ps).sum (low_end ps).rows
low_reached [] w = absurd (w refl)
low_reached (p ∷ ps) w =
    let all = p ∷ ps in
    let best = best_cut (negated p) (map negated ps) in
    let test = counted_low best.0 in
    subst (λ (e : Choice). EndsAverage all (negative e.sum) e.rows) (sym best.1.best) (
      map (given_where test (λ p. p.low)) all,
      given_ends test (λ p. p.low) all (λ p. inl refl) (λ p c. certain_counted p.certain (takes best.0 (negated p)) c),
      ap average (present-given test (λ p. p.low) all) ∙ low_average all best.0 (counts_rows (map negated all) best.0 best.1.tried),
    )

-- ---- the word on null

sum_is_none : (vs : List ℤ) → average vs ≡ None → answer Sum vs ≡ None
sum_is_none [] e = refl
sum_is_none (v ∷ vs) e = absurd (cc e)

average_is_none : (vs : List ℤ) → answer Sum vs ≡ None → average vs ≡ None
average_is_none [] e = refl
average_is_none (v ∷ vs) e = absurd (cc e)

-- the word on a sum is that on the average
pub word_of_sum : {W : Type 0} (IsWorld : W → Type 0) (values_in : W → List ℤ) (w : Nullity) →
    WordIsRight IsWorld (λ world. answer Sum (values_in world)) w → WordIsRight IsWorld (λ world. average (values_in world)) w
word_of_sum IsWorld values_in Never told = λ world h e. told world h (sum_is_none (values_in world) e)
word_of_sum IsWorld values_in Possibly told = (told.0, told.1, average_is_none (values_in told.0) told.2)
word_of_sum IsWorld values_in Always told = λ world h. average_is_none (values_in world) (told world h)

pub exact_averages_are_extremes_of_lists : ExactAveragesAreExtremesOfLists
exact_averages_are_extremes_of_lists ps ordered =
    let sums = bounds_are_extremes_of_lists Sum ps (λ e. cc) ordered in
    let high = high_reached ps in
    let low = low_reached ps in
    let outcomes = λ (os : List (Option ℤ)) (h : AreEndOutcomes ps os). choice_from_ends ps os ordered h in (
      record {
        admits = λ os h. exact_admits ps os h;
        null = word_of_sum (AreOutcomes ps) present (nullity_of ps) sums.0.null;
        lo = λ w. (let found = low w in (found.0, outcomes found.0 found.1, found.2));
        hi = λ w. (let found = high w in (found.0, outcomes found.0 found.1, found.2));
      },
      record {
        admits = λ os h. exact_admits ps os (outcomes os h);
        null = word_of_sum (AreEndOutcomes ps) present (nullity_of ps) sums.1.null;
        lo = low;
        hi = high;
      },
    )

-- ---- nesting

pub average_word : (ps : List Pair) → (average_bound_of ps).null ≡ nullity_of ps
average_word [] = refl
average_word (p ∷ ps) = refl

pub exact_averages_lie_within : ExactAveragesLieWithin
exact_averages_lie_within ps ordered =
    let law = (exact_averages_are_extremes_of_lists ps ordered).0 in
    let word = average_word ps in
    record {
      null = λ w e. w (sym word ∙ e);
      full = λ w e. w (sym word ∙ e);
      lo = λ w. (let found = law.lo w in (subst (AdmitsAverage (average_bound_of ps)) found.2 (average_bounds_admit_lists ps found.0 ordered found.1)).1);
      hi = λ w. (let found = law.hi w in (subst (AdmitsAverage (average_bound_of ps)) found.2 (average_bounds_admit_lists ps found.0 ordered found.1)).2);
    }

-- a choice for the list with these values
abbrev pub ChoiceGives : List Pair → List ℤ → Type 0
ChoiceGives ps values = (os : List (Option ℤ)) × AreOutcomes ps os × (present os ≡ values)

-- where each choice for the new list has one for the old list with its values
pub exact_nested : (ps ps' : List Pair) → ArePairs ps' → IsNested (bound_of Sum ps) (bound_of Sum ps') →
    ((os : List (Option ℤ)) → AreOutcomes ps' os → ChoiceGives ps (present os)) → IsNestedAverage (ends_of (exact_of ps)) (ends_of (exact_of ps'))
exact_nested ps ps' ordered sums older =
    let law = (exact_averages_are_extremes_of_lists ps' ordered).0 in
    record {
      null = λ w. sums.null w;
      full = λ w. sums.full w;
      lo = λ w. (let found = law.lo w in let old = older found.0 found.1 in
          (subst (AdmitsAverage (ends_of (exact_of ps))) (ap average old.2 ∙ found.2) (exact_admits ps old.0 old.1)).1);
      hi = λ w. (let found = law.hi w in let old = older found.0 found.1 in
          (subst (AdmitsAverage (ends_of (exact_of ps))) (ap average old.2 ∙ found.2) (exact_admits ps old.0 old.1)).2);
    }
