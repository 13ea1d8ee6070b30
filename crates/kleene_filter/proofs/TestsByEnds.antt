-- What holds for all numbers of ranges, or for some, told by the ends of the ranges.
use Rattle.std.proofs.Common.{◌≡◌, ℤ, pos, ◌+ℤ◌, ◌≤ℤ◌, ◌<ℤ◌, Bool, true, false, not, ◌&&◌, ◌⊎◌, inl, inr, List, refl, sym, ap, ◌∙◌, subst, arith}
use Rattle.std.specs.Prelude.{int_lt, int_le}
use Rattle.std.specs.List.{list_any, list_all}
use Rattle.std.specs.Ordering.{int_eq}
use Rattle.std.proofs.lemmas.Bool.{cases_Bool, and_parts, and_cases, false≢true, true≢false}
use Rattle.std.proofs.lemmas.Bool.Decides.{Decides-int_eq}
use Rattle.std.proofs.lemmas.Int.{ints}
use Rattle.interval_calc.specs.Intervals.{Interval, Within, numbers_in, only}
use Rattle.query_model.specs.declared.query.Comparison.{Comparison}
use Rattle.query_model.specs.declared.query.Comparison.TheVariants.{Eq, Ne, Lt, Le, Gt, Ge}
use Rattle.query_model.specs.Meaning.{among, between, compares}
use Rattle.query_model.specs.Truths.{truth_from, truth_over, truth_over_both}
use Rattle.query_model.proofs.Extremes.{Has}
use Rattle.query_model.proofs.Numbers.{all_at, all_missed, any_at, any_found, from_numbers, high_within, in_numbers, low_within}
use Rattle.kleene_filter.specs.ByEnds.{always_between, always_compares, are_one, meet, some_within, sometimes_between, sometimes_compares}

-- ---- over a range

-- whether a test holds for all numbers of a range is told by a proof that it does, or by a number at which it does not
pub all_is : (i : Interval) (test : ℤ → Bool) (b : Bool) → i.low ≤ℤ i.high → (b ≡ true → (x : ℤ) → Within i x → test x ≡ true) → (b ≡ false → (x : ℤ) × Within i x × (test x ≡ false)) →
    list_all test (numbers_in i) ≡ b
all_is i test true o holds fails =
    elim (cases_Bool (list_all test (numbers_in i))) [
      | inl t ↦ t
      | inr f ↦ (let missed = all_missed test (numbers_in i) f in absurd (true≢false (sym (holds refl missed.0 (from_numbers i missed.0 o missed.1)) ∙ missed.2)))
    ]
all_is i test false o holds fails =
    elim (cases_Bool (list_all test (numbers_in i))) [
      | inl t ↦ (let found = fails refl in absurd (true≢false (sym (all_at test (numbers_in i) found.0 t (in_numbers i found.0 found.1)) ∙ found.2)))
      | inr f ↦ f
    ]

pub any_is : (i : Interval) (test : ℤ → Bool) (b : Bool) → i.low ≤ℤ i.high → (b ≡ true → (x : ℤ) × Within i x × (test x ≡ true)) → (b ≡ false → (x : ℤ) → Within i x → test x ≡ false) →
    list_any test (numbers_in i) ≡ b
any_is i test true o holds fails =
    elim (cases_Bool (list_any test (numbers_in i))) [
      | inl t ↦ t
      | inr f ↦ (let found = holds refl in absurd (true≢false (sym found.2 ∙ any_at test (numbers_in i) found.0 f (in_numbers i found.0 found.1))))
    ]
any_is i test false o holds fails =
    elim (cases_Bool (list_any test (numbers_in i))) [
      | inl t ↦ (let found = any_found test (numbers_in i) t in absurd (true≢false (sym found.2 ∙ fails refl found.0 (from_numbers i found.0 o found.1))))
      | inr f ↦ f
    ]

-- ---- over two ranges

-- what shows that a test of two numbers has such an answer for all numbers of two ranges, and for some
pub record AreAnswers (i j : Interval) (test : ℤ → ℤ → Bool) (always sometimes : Bool) : Type 0 where
  pub all : always ≡ true → (x y : ℤ) → Within i x → Within j y → test x y ≡ true
  pub missed : always ≡ false → (x y : ℤ) × Within i x × Within j y × (test x y ≡ false)
  pub found : sometimes ≡ true → (x y : ℤ) × Within i x × Within j y × (test x y ≡ true)
  pub none : sometimes ≡ false → (x y : ℤ) → Within i x → Within j y → test x y ≡ false

pub both_is : (i j : Interval) (test : ℤ → ℤ → Bool) (always sometimes : Bool) → i.low ≤ℤ i.high → j.low ≤ℤ j.high → AreAnswers i j test always sometimes →
    truth_over_both i j test ≡ truth_from always sometimes
unfolding truth_over_both
both_is i j test always sometimes o o' h =
    let all : list_all (λ x. list_all (test x) (numbers_in j)) (numbers_in i) ≡ always =
    all_is i (λ x. list_all (test x) (numbers_in j)) always o
    (λ e x w. all_is j (test x) true o' (λ _ y v. h.all e x y w v) (λ f. absurd (true≢false f)))
    (λ e. (let m = h.missed e in (m.0, m.2, all_is j (test m.0) false o' (λ f. absurd (false≢true f)) (λ _. (m.1, m.3, m.4))))) in
    let any : list_any (λ x. list_any (test x) (numbers_in j)) (numbers_in i) ≡ sometimes =
    any_is i (λ x. list_any (test x) (numbers_in j)) sometimes o
    (λ e. (let m = h.found e in (m.0, m.2, any_is j (test m.0) true o' (λ _. (m.1, m.3, m.4)) (λ f. absurd (true≢false f)))))
    (λ e x w. any_is j (test x) false o' (λ f. absurd (false≢true f)) (λ _ y v. h.none e x y w v)) in
    ap (λ a. truth_from a (list_any (λ x. list_any (test x) (numbers_in j)) (numbers_in i))) all ∙ ap (truth_from always) any

-- a test of the one number of a range
pub over_one : (i : Interval) (z : ℤ) (test : ℤ → ℤ → Bool) (always sometimes : Bool) → i.low ≤ℤ i.high → AreAnswers i (only z) test always sometimes →
    truth_over_both i (only z) test ≡ truth_over i (λ x. test x z)
unfolding truth_over
over_one i z test always sometimes o h =
    let here : Within (only z) z = record { above = omega (arith, ints); below = omega (arith, ints) } in
    let all : list_all (λ x. test x z) (numbers_in i) ≡ always =
    all_is i (λ x. test x z) always o (λ e x w. h.all e x z w here) (λ e. (let m = h.missed e in (m.0, m.2, at_one (λ y. test m.0 y ≡ false) m.1 m.3 m.4))) in
    let any : list_any (λ x. test x z) (numbers_in i) ≡ sometimes =
    any_is i (λ x. test x z) sometimes o (λ e. (let m = h.found e in (m.0, m.2, at_one (λ y. test m.0 y ≡ true) m.1 m.3 m.4))) (λ e x w. h.none e x z w here) in
    both_is i (only z) test always sometimes o (omega (arith, ints)) h ∙ sym (ap (λ a. truth_from a (list_any (λ x. test x z) (numbers_in i))) all ∙ ap (truth_from always) any)
  where
    at_one : (P : ℤ → Type 0) (y : ℤ) → Within (only z) y → P y → P z
    at_one P y w p = (let a = w.above in let b = w.below in let same : y ≡ z = omega (arith, ints) in subst P same p)

-- ---- orders

-- a test that stays true where the first number falls and the second rises
falling : (i j : Interval) (test : ℤ → ℤ → Bool) → i.low ≤ℤ i.high → j.low ≤ℤ j.high → ((x y x' y' : ℤ) → x' ≤ℤ x → y ≤ℤ y' → test x y ≡ true → test x' y' ≡ true) →
    AreAnswers i j test (test i.high j.low) (test i.low j.high)
falling i j test o o' stays = record {
  all = λ e x y w v. stays i.high j.low x y w.below v.above e;
  missed = λ e. (i.high, j.low, high_within i o, low_within j o', e);
  found = λ e. (i.low, j.high, low_within i o, high_within j o', e);
  none = λ e x y w v. elim (cases_Bool (test x y)) [
    | inl t ↦ absurd (true≢false (sym (stays x y i.low j.high w.above v.below t) ∙ e))
    | inr f ↦ f
  ];
}

-- a test that stays true where the first number rises and the second falls
rising : (i j : Interval) (test : ℤ → ℤ → Bool) → i.low ≤ℤ i.high → j.low ≤ℤ j.high → ((x y x' y' : ℤ) → x ≤ℤ x' → y' ≤ℤ y → test x y ≡ true → test x' y' ≡ true) →
    AreAnswers i j test (test i.low j.high) (test i.high j.low)
rising i j test o o' stays = record {
  all = λ e x y w v. stays i.low j.high x y w.above v.below e;
  missed = λ e. (i.low, j.high, low_within i o, high_within j o', e);
  found = λ e. (i.high, j.low, high_within i o, low_within j o', e);
  none = λ e x y w v. elim (cases_Bool (test x y)) [
    | inl t ↦ absurd (true≢false (sym (stays x y i.high j.low w.below v.above t) ∙ e))
    | inr f ↦ f
  ];
}

less_stays : (x y x' y' : ℤ) → x' ≤ℤ x → y ≤ℤ y' → int_lt x y ≡ true → int_lt x' y' ≡ true
less_stays x y x' y' h k e = grind (arith, ints)

at_most_stays : (x y x' y' : ℤ) → x' ≤ℤ x → y ≤ℤ y' → int_le x y ≡ true → int_le x' y' ≡ true
at_most_stays x y x' y' h k e = grind (arith, ints)

-- ---- equality

pub le_holds : (a b : ℤ) → int_le a b ≡ true → a ≤ℤ b
le_holds a b e = grind (arith, ints)

le_fails : (a b : ℤ) → int_le a b ≡ false → (b ≡ a → ⊥) × (b ≤ℤ a)
le_fails a b e = (grind (arith, ints), grind (arith, ints))

pub eq_holds : (a b : ℤ) → int_eq a b ≡ true → a ≡ b
eq_holds a b e = (Decides-int_eq a b).0 e

pub eq_fails : (a b : ℤ) → (a ≡ b → ⊥) → int_eq a b ≡ false
eq_fails a b n = elim (cases_Bool (int_eq a b)) [ inl t ↦ absurd (n (eq_holds a b t)) | inr f ↦ f ]

-- equal numbers of two ranges
equals : (i j : Interval) → i.low ≤ℤ i.high → j.low ≤ℤ j.high → AreAnswers i j int_eq (are_one i j) (meet i j)
equals i j o o' = record {
  all = λ e x y w v.
      let ends = and_parts (int_eq i.low j.high) (int_eq i.high j.low) e in
      let first = eq_holds i.low j.high ends.0 in
      let second = eq_holds i.high j.low ends.1 in
      let a = w.above in let b = w.below in let c = v.above in let d = v.below in
      (Decides-int_eq x y).1 (omega (arith, ints));
  missed = λ e. elim (and_cases (int_eq i.low j.high) (int_eq i.high j.low) e) [
    | inl f ↦ (i.low, j.high, low_within i o, high_within j o', f)
    | inr f ↦ (i.high, j.low, high_within i o, low_within j o', f)
  ];
  found = λ e.
      let ends = and_parts (int_le i.low j.high) (int_le j.low i.high) e in
      let first = le_holds i.low j.high ends.0 in
      let second = le_holds j.low i.high ends.1 in
      shared i j o o' first second;
  none = λ e x y w v. eq_fails x y (λ same. let a = w.above in let b = w.below in let c = v.above in let d = v.below in
      elim (and_cases (int_le i.low j.high) (int_le j.low i.high) e) [
        | inl f ↦ (let apart = le_fails i.low j.high f in let below = apart.1 in apart.0 (omega (arith, ints)))
        | inr f ↦ (let apart = le_fails j.low i.high f in let below = apart.1 in apart.0 (omega (arith, ints)))
      ]);
}
  where
    shared : (i j : Interval) → i.low ≤ℤ i.high → j.low ≤ℤ j.high → i.low ≤ℤ j.high → j.low ≤ℤ i.high → (x y : ℤ) × Within i x × Within j y × (int_eq x y ≡ true)
    shared i j o o' h k =
        elim (cases_Bool (int_le i.low j.low)) [
          | inl t ↦ (let below = le_holds i.low j.low t in (j.low, j.low, record { above = below; below = k }, low_within j o', (Decides-int_eq j.low j.low).1 refl))
          | inr f ↦ (let apart = le_fails i.low j.low f in let above = apart.1 in (i.low, i.low, low_within i o, record { above = above; below = h }, (Decides-int_eq i.low i.low).1 refl))
        ]

not_true : (b : Bool) → b ≡ false → not b ≡ true
not_true b e = ap not e

not_false : (b : Bool) → b ≡ true → not b ≡ false
not_false b e = ap not e

was_true : (b : Bool) → not b ≡ false → b ≡ true
was_true true e = refl
was_true false e = absurd (true≢false e)

was_false : (b : Bool) → not b ≡ true → b ≡ false
was_false false e = refl
was_false true e = absurd (false≢true e)

differs : (i j : Interval) (test : ℤ → ℤ → Bool) (always sometimes : Bool) → AreAnswers i j test always sometimes → AreAnswers i j (λ x y. not (test x y)) (not sometimes) (not always)
differs i j test always sometimes h = record {
  all = λ e x y w v. not_true (test x y) (h.none (was_false sometimes e) x y w v);
  missed = λ e. (let m = h.found (was_true sometimes e) in (m.0, m.1, m.2, m.3, not_false (test m.0 m.1) m.4));
  found = λ e. (let m = h.missed (was_false always e) in (m.0, m.1, m.2, m.3, not_true (test m.0 m.1) m.4));
  none = λ e x y w v. not_false (test x y) (h.all (was_true always e) x y w v);
}

-- ---- comparisons

answers_of : (op : Comparison) (i j : Interval) → i.low ≤ℤ i.high → j.low ≤ℤ j.high → AreAnswers i j (compares op) (always_compares op i j) (sometimes_compares op i j)
answers_of Eq i j o o' = equals i j o o'
answers_of Ne i j o o' = differs i j int_eq (are_one i j) (meet i j) (equals i j o o')
answers_of Lt i j o o' = falling i j int_lt o o' less_stays
answers_of Le i j o o' = falling i j int_le o o' at_most_stays
answers_of Gt i j o o' = rising i j (λ x y. int_lt y x) o o' (λ x y x' y' h k e. less_stays y x y' x' k h e)
answers_of Ge i j o o' = rising i j (λ x y. int_le y x) o o' (λ x y x' y' h k e. at_most_stays y x y' x' k h e)

pub compared_by_ends : (op : Comparison) (i j : Interval) → i.low ≤ℤ i.high → j.low ≤ℤ j.high → truth_over_both i j (compares op) ≡ truth_from (always_compares op i j) (sometimes_compares op i j)
compared_by_ends op i j o o' = both_is i j (compares op) _ _ o o' (answers_of op i j o o')

pub against_one : (op : Comparison) (i : Interval) (z : ℤ) → i.low ≤ℤ i.high → truth_over_both i (only z) (compares op) ≡ truth_over i (λ x. compares op x z)
against_one op i z o = over_one i z (compares op) _ _ o (answers_of op i (only z) o (omega (arith, ints)))

-- ---- between two numbers

pub and_true : (a b : Bool) → a ≡ true → b ≡ true → (a && b) ≡ true
and_true a b e f = ap (λ v. v && b) e ∙ f

pub and_false_left : (a b : Bool) → a ≡ false → (a && b) ≡ false
and_false_left a b e = ap (λ v. v && b) e

pub and_false_right : (a b : Bool) → b ≡ false → (a && b) ≡ false
and_false_right true b f = f
and_false_right false b f = refl

pub le_is : (a b : ℤ) → a ≤ℤ b → int_le a b ≡ true
le_is a b h = grind (arith, ints)

never_between : (low high x : ℤ) → (low ≤ℤ x → x ≤ℤ high → ⊥) → between low high x ≡ false
never_between low high x n =
    elim (cases_Bool (between low high x)) [
      | inl t ↦ (let parts = and_parts (int_le low x) (int_le x high) t in absurd (n (le_holds low x parts.0) (le_holds x high parts.1)))
      | inr f ↦ f
    ]

pub between_by_ends : (i : Interval) (low high : ℤ) → i.low ≤ℤ i.high → truth_over i (between low high) ≡ truth_from (always_between low high i) (sometimes_between low high i)
unfolding truth_over
between_by_ends i low high o =
    let all : list_all (between low high) (numbers_in i) ≡ always_between low high i =
    all_is i (between low high) (always_between low high i) o
    (λ e x w.
    let ends = and_parts (int_le low i.low) (int_le i.high high) e in
    let first = le_holds low i.low ends.0 in
    let last = le_holds i.high high ends.1 in
    let a = w.above in let b = w.below in
    and_true (int_le low x) (int_le x high) (le_is low x (omega (arith, ints))) (le_is x high (omega (arith, ints))))
    (λ e. elim (and_cases (int_le low i.low) (int_le i.high high) e) [
      | inl f ↦ (i.low, low_within i o, and_false_left (int_le low i.low) (int_le i.low high) f)
      | inr f ↦ (i.high, high_within i o, and_false_right (int_le low i.high) (int_le i.high high) f)
    ]) in
    let any : list_any (between low high) (numbers_in i) ≡ sometimes_between low high i =
    any_is i (between low high) (sometimes_between low high i) o
    (λ e.
    let parts = and_parts (int_le low high) (int_le low i.high && int_le i.low high) e in
    let ends = and_parts (int_le low i.high) (int_le i.low high) parts.1 in
    some_number i low high o parts.0 ends.0 ends.1)
    (λ e x w. never_between low high x (λ above below. let a = w.above in let b = w.below in
    elim (and_cases (int_le low high) (int_le low i.high && int_le i.low high) e) [
      | inl f ↦ (let apart = le_fails low high f in let under = apart.1 in apart.0 (omega (arith, ints)))
      | inr g ↦ elim (and_cases (int_le low i.high) (int_le i.low high) g) [
        | inl f ↦ (let apart = le_fails low i.high f in let under = apart.1 in apart.0 (omega (arith, ints)))
        | inr f ↦ (let apart = le_fails i.low high f in let under = apart.1 in apart.0 (omega (arith, ints)))
      ]
    ])) in
    ap (λ a. truth_from a (list_any (between low high) (numbers_in i))) all ∙ ap (truth_from (always_between low high i)) any
  where
    some_number : (i : Interval) (low high : ℤ) → i.low ≤ℤ i.high → int_le low high ≡ true → int_le low i.high ≡ true → int_le i.low high ≡ true → (x : ℤ) × Within i x × (between low high x ≡ true)
    some_number i low high o e f g =
        elim (cases_Bool (int_le low i.low)) [
          | inl t ↦ (i.low, low_within i o, and_true (int_le low i.low) (int_le i.low high) t g)
          | inr n ↦ (let apart = le_fails low i.low n in (low, record { above = apart.1; below = le_holds low i.high f }, and_true (int_le low low) (int_le low high) (le_is low low (omega (arith, ints))) e))
        ]

-- ---- one of some numbers

pub is_among_them : (values : List ℤ) (x : ℤ) → Has x values → among values x ≡ true
is_among_them values x has =
    elim (cases_Bool (among values x)) [
      | inl t ↦ t
      | inr f ↦ absurd (true≢false (sym ((Decides-int_eq x x).1 refl) ∙ any_at (λ v. int_eq x v) values x f has))
    ]

pub some_among : (i : Interval) (values : List ℤ) → i.low ≤ℤ i.high → list_any (among values) (numbers_in i) ≡ some_within values i
some_among i values o =
    any_is i (among values) (some_within values i) o
    (λ e.
    let found = any_found (between i.low i.high) values e in
    let parts = and_parts (int_le i.low found.0) (int_le found.0 i.high) found.2 in
    (found.0, record { above = le_holds i.low found.0 parts.0; below = le_holds found.0 i.high parts.1 }, is_among_them values found.0 found.1))
    (λ e x w. elim (cases_Bool (among values x)) [
      | inl t ↦ (let found = any_found (λ v. int_eq x v) values t in
          let same = eq_holds x found.0 found.2 in
          let inside : between i.low i.high x ≡ true = and_true (int_le i.low x) (int_le x i.high) (le_is i.low x w.above) (le_is x i.high w.below) in
          absurd (true≢false (sym inside ∙ ap (between i.low i.high) same ∙ any_at (between i.low i.high) values found.0 e found.1)))
      | inr f ↦ f
    ])

pub among_by_ends : (i : Interval) (values : List ℤ) → i.low ≤ℤ i.high → truth_over i (among values) ≡ truth_from (list_all (among values) (numbers_in i)) (some_within values i)
unfolding truth_over
among_by_ends i values o = ap (truth_from (list_all (among values) (numbers_in i))) (some_among i values o)

-- ---- numbers one by one

le_cases : (x y : ℤ) → x ≤ℤ y → (x <ℤ y) ⊎ (x ≡ y)
le_cases x y h =
    elim (cases_Bool (int_lt x y)) [
      | inl t ↦ inl (grind (arith, ints))
      | inr f ↦ inr (grind (arith, ints))
    ]

-- all numbers of a range are among some where those below one are, this one is, and it is the last
pub all_up_to : (values : List ℤ) (i : Interval) (n : ℤ) → i.low ≤ℤ i.high → ((x : ℤ) → i.low ≤ℤ x → x <ℤ n → among values x ≡ true) → among values n ≡ true → n ≡ i.high → list_all (among values) (numbers_in i) ≡ true
all_up_to values i n o before here last =
    all_is i (among values) true o
    (λ _ x w. elim (le_cases x i.high w.below) [
      | inl less ↦ before x w.above (subst (λ y. x <ℤ y) (sym last) less)
      | inr same ↦ ap (among values) (same ∙ sym last) ∙ here
    ])
    (λ f. absurd (true≢false f))

pub not_all : (values : List ℤ) (i : Interval) (n : ℤ) → i.low ≤ℤ i.high → i.low ≤ℤ n → n ≤ℤ i.high → among values n ≡ false → list_all (among values) (numbers_in i) ≡ false
not_all values i n o above below f = all_is i (among values) false o (λ t. absurd (false≢true t)) (λ _. (n, record { above = above; below = below }, f))

pub passed_further : (values : List ℤ) (low n m : ℤ) → m ≡ n +ℤ pos 1 → ((x : ℤ) → low ≤ℤ x → x <ℤ n → among values x ≡ true) → among values n ≡ true → (x : ℤ) → low ≤ℤ x → x <ℤ m → among values x ≡ true
passed_further values low n m next before here x above below =
    elim (le_cases x n (omega (arith, ints))) [
      | inl less ↦ before x above less
      | inr same ↦ ap (among values) same ∙ here
    ]
