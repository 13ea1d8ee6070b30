-- The high end: no choice of rows and values has a greater average, and which choices are it.
use Rattle.std.proofs.Common.{◌≡◌, ◌≢◌, ℕ, ◌<◌, ◌≤◌, ℤ, pos, ◌*ℤ◌, ◌-ℤ◌, ◌≤ℤ◌, ◌<ℤ◌, int_lt, int_le, Bool, true, false, not, ◌&&◌, ◌||◌, List, [], ◌∷◌, length, map, ◌⊎◌, inl, inr, refl, arith, filter, IsTrue, IsFalse, Option, Some, None, subst, sym, ap, ◌∙◌}
use Rattle.std.proofs.lemmas.Bool.{cases_Bool, false≢true, true≢false}
use Rattle.std.proofs.lemmas.Int.{ints}
use Rattle.query_model.specs.Answers.{total}
use Rattle.query_model.specs.Bounds.{Pair, highs, some_certain}
use Rattle.query_model.specs.Laws.{AreOutcomes, present}
use Rattle.query_model.proofs.Integers.{times_pos}
use Rattle.avg_exact.specs.ExactAverages.{Choice, Cut, IsAllowed, IsCutOf, IsHighEnd, IsReached, best_of, choice_of, cuts_of, high_end, rows_counted, rows_taken, takes}
use Rattle.avg_exact.proofs.Fractions.{times_suc}
use Rattle.avg_exact.proofs.Gains.{HasPair, exchange, exchange_strictly, filter_same, gain, gain-is, is_above, outcomes_gain, subset_counts_strictly, with_certain}
use Rattle.avg_exact.proofs.Cuts.{HasCut, IsLeastUp, IsTried, IsUpward, any_of, counts_some, cut_is_tried, found_any, le_holds, le_is, least_is_reached, least_up, least_up-is, lt_holds, lt_is, not_lt, row_of_cut, some_counted, some_cut, takes-least, takes_more, takes_not_below, takes_own, tried_is_cut}
use Rattle.avg_exact.proofs.BestChoices.{AreAllowed, Beats, BeatsStrictly, HasChoice, at_most_beaten, best_beats, best_is, best_stands}

-- ---- the choices that are tried

counted_of_taken : (c b : Bool) → IsTrue b → IsTrue (c || b)
counted_of_taken true b t = refl
counted_of_taken false b t = t

counted_of_certain : (c b : Bool) → IsTrue c → IsTrue (c || b)
counted_of_certain true b t = refl
counted_of_certain false b t = absurd (false≢true t)

pub counts_rows : (ps : List Pair) (c : Cut) → IsTried ps c → 1 ≤ length (rows_counted c ps)
counts_rows ps None t =
    let found = found_any (λ p. p.certain) ps t in
    counts_some (with_certain (takes None)) ps found.0 found.1 (counted_of_certain found.0.certain false found.2)
counts_rows ps (Some h) t =
    let row = row_of_cut ps h t in
    counts_some (with_certain (takes (Some h))) ps row.0 row.1 (counted_of_taken row.0.certain (takes (Some h) row.0) (takes_own row.0 h row.2 row.3))

pub takes_rows : (ps : List Pair) (h : ℤ) → IsReached ps (Some h) → 1 ≤ length (rows_taken (Some h) ps)
takes_rows ps h t =
    let row = row_of_cut ps h t in
    counts_some (takes (Some h)) ps row.0 row.1 (takes_own row.0 h row.2 row.3)

abbrev choices : List Pair → List Cut → List Choice
choices ps cs = map (choice_of ps) cs

choice_stands : (ps : List Pair) (cs : List Cut) (c : Cut) → HasCut c cs → HasChoice (choice_of ps c) (choices ps cs)
choice_stands ps [] c h = absurd h
choice_stands ps (d ∷ ds) c (inl e) = inl (ap (choice_of ps) e)
choice_stands ps (d ∷ ds) c (inr h) = inr (choice_stands ps ds c h)

cut_of_choice : (ps : List Pair) (cs : List Cut) (x : Choice) → HasChoice x (choices ps cs) → (c : Cut) × HasCut c cs × (x ≡ choice_of ps c)
cut_of_choice ps [] x h = absurd h
cut_of_choice ps (d ∷ ds) x (inl e) = (d, inl refl, e)
cut_of_choice ps (d ∷ ds) x (inr h) = (let found = cut_of_choice ps ds x h in (found.0, inr found.1, found.2))

all_allowed : (ps : List Pair) → AreAllowed (choices ps (cuts_of ps))
all_allowed ps x h =
    let found = cut_of_choice ps (cuts_of ps) x h in
    subst (λ (y : Choice). 1 ≤ y.rows) (sym found.2) (counts_rows ps found.0 (cut_is_tried ps found.0 found.1))

stands_in : (cs : List Choice) (c : Choice) → HasChoice c cs → HasChoice (best_of cs) cs
stands_in [] c h = absurd h
stands_in (d ∷ ds) c h = best_stands d ds

beats_in : (cs : List Choice) → AreAllowed cs → (c : Choice) → HasChoice c cs → Beats (best_of cs) c
beats_in [] some c h = absurd h
beats_in (d ∷ ds) some c h = best_beats d ds some c h

-- the high end is a choice that is tried, and at least as good as each of those
pub record IsBestCut (ps : List Pair) (c : Cut) : Type 0 where
  pub tried : IsTried ps c
  pub best : high_end ps ≡ choice_of ps c
  pub beats : (d : Cut) → IsTried ps d → Beats (choice_of ps c) (choice_of ps d)

pub best_cut : (p : Pair) (ps : List Pair) → (c : Cut) × IsBestCut (p ∷ ps) c
best_cut p ps =
    let all = p ∷ ps in
    let some = some_cut p ps in
    let stands = stands_in (choices all (cuts_of all)) (choice_of all some.0) (choice_stands all (cuts_of all) some.0 some.1) in
    let found = cut_of_choice all (cuts_of all) (high_end all) stands in (
      found.0,
      record {
        tried = cut_is_tried all found.0 found.1;
        best = found.2;
        beats = λ d t. subst (λ b. Beats b (choice_of all d)) found.2
            (beats_in (choices all (cuts_of all)) (all_allowed all) (choice_of all d) (choice_stands all (cuts_of all) d (tried_is_cut all d t)));
      },
    )

-- ---- no choice exceeds it

-- no row counts
none_counted : (f : Pair → Bool) (ps : List Pair) → ((q : Pair) → HasPair q ps → IsFalse (f q)) → filter f ps ≡ []
none_counted f [] h = refl
none_counted f (p ∷ ps) h = rw (h p (inl refl)) (none_counted f ps (λ q has. h q (inr has)))

no_gain : (s : ℤ) (n : ℕ) (f : Pair → Bool) (ps : List Pair) → ((q : Pair) → HasPair q ps → IsFalse (f q)) → gain s n f ps ≡ pos 0
no_gain s n f ps h =
    gain-is s n f ps ∙ ap (λ (qs : List Pair). (total (highs qs) *ℤ pos n) -ℤ (s *ℤ pos (length qs))) (none_counted f ps h) ∙ omega (arith, ints)

not_certain : (ps : List Pair) → IsFalse (some_certain ps) → (q : Pair) → HasPair q ps → IsFalse q.certain
not_certain ps f q has = elim (cases_Bool q.certain) [ inl t ↦ absurd (true≢false (sym (any_of (λ p. p.certain) ps q has t) ∙ f)) | inr w ↦ w ]

neither : (c b : Bool) → IsFalse c → IsFalse b → IsFalse (c || b)
neither true b f g = f
neither false b f g = g

-- at the average of a choice that beats all that are tried
pub none_above : (ps : List Pair) (s : ℤ) (n : ℕ) →
    ((d : Cut) → IsTried ps d → (total (highs (rows_counted d ps)) *ℤ pos n) ≤ℤ (s *ℤ pos (length (rows_counted d ps)))) →
    gain s n (with_certain (is_above s n)) ps ≤ℤ pos 0
none_above ps s n below = by_cut (least_up above ps) (least_up-is above ps)
  where
    above : ℤ → Bool
    above x = int_lt s (x *ℤ pos n)

    tried : (d : Cut) → IsTried ps d → ((q : Pair) → HasPair q ps → takes d q ≡ is_above s n q) → gain s n (with_certain (is_above s n)) ps ≤ℤ pos 0
    tried d t agree =
        let same = filter_same (with_certain (takes d)) (with_certain (is_above s n)) ps (λ q has. ap (λ b. q.certain || b) (agree q has)) in
        let is = gain-is s n (with_certain (is_above s n)) ps in
        let under : (total (highs (filter (with_certain (is_above s n)) ps)) *ℤ pos n) ≤ℤ (s *ℤ pos (length (filter (with_certain (is_above s n)) ps))) =
        subst (λ (qs : List Pair). (total (highs qs) *ℤ pos n) ≤ℤ (s *ℤ pos (length qs))) same (below d t) in
        omega (arith, ints)

    closed : IsUpward above
    closed x y h t = (let more = times_pos x y n h in let less = lt_holds s (x *ℤ pos n) t in lt_is s (y *ℤ pos n) (omega (arith, ints)))

    by_cut : (c : Cut) → IsLeastUp above ps c → gain s n (with_certain (is_above s n)) ps ≤ℤ pos 0
    by_cut (Some h) found = tried (Some h) (least_is_reached above ps h found) (takes-least above ps (Some h) closed found)
    by_cut None found = elim (cases_Bool (some_certain ps)) [
      | inl t ↦ tried None t (takes-least above ps None closed found)
      | inr f ↦ (let zero = no_gain s n (with_certain (is_above s n)) ps (λ q has. neither q.certain (is_above s n q) (not_certain ps f q has) (found q has)) in omega (arith, ints))
    ]

pub high_end_is_top : (p : Pair) (ps : List Pair) →
    gain (high_end (p ∷ ps)).sum (high_end (p ∷ ps)).rows (with_certain (is_above (high_end (p ∷ ps)).sum (high_end (p ∷ ps)).rows)) (p ∷ ps) ≤ℤ pos 0
high_end_is_top p ps =
    let found = best_cut p ps in
    subst (λ (e : Choice). gain e.sum e.rows (with_certain (is_above e.sum e.rows)) (p ∷ ps) ≤ℤ pos 0) (sym found.1.best)
    (none_above (p ∷ ps) (choice_of (p ∷ ps) found.0).sum (choice_of (p ∷ ps) found.0).rows
    (λ d t. at_most_beaten (choice_of (p ∷ ps) found.0) (choice_of (p ∷ ps) d) (found.1.beats d t)))

-- no choice of outcomes has a greater average
pub outcomes_below : (p : Pair) (ps : List Pair) (os : List (Option ℤ)) → AreOutcomes (p ∷ ps) os →
    (total (present os) *ℤ pos (high_end (p ∷ ps)).rows) ≤ℤ ((high_end (p ∷ ps)).sum *ℤ pos (length (present os)))
outcomes_below p ps os h =
    let top = high_end_is_top p ps in
    let most = outcomes_gain (high_end (p ∷ ps)).sum (high_end (p ∷ ps)).rows (p ∷ ps) os h in
    omega (arith, ints)

-- ---- the high end by its properties

-- a cut that takes a row is as good as one that is tried
abbrev IsLikeTried : List Pair → Cut → Type 0
IsLikeTried ps c = (d : Cut) × IsTried ps d × (rows_counted d ps ≡ rows_counted c ps) × (rows_taken d ps ≡ rows_taken c ps)

allowed_is_tried : (ps : List Pair) (c : Cut) → IsAllowed ps c → IsLikeTried ps c
allowed_is_tried ps None t = (None, t, refl, refl)
allowed_is_tried ps (Some h) some = by_cut (least_up above ps) (least_up-is above ps)
  where
    above : ℤ → Bool
    above x = int_le h x

    closed : IsUpward above
    closed x y l t = (let first = le_holds h x t in le_is h y (omega (arith, ints)))

    by_cut : (d : Cut) → IsLeastUp above ps d → IsLikeTried ps (Some h)
    by_cut None found = (let row = some_counted (takes (Some h)) ps some in absurd (false≢true (sym (found row.0 row.1) ∙ row.2)))
    by_cut (Some k) found =
        let agree = takes-least above ps (Some k) closed found in (
          Some k,
          least_is_reached above ps k found,
          filter_same (with_certain (takes (Some k))) (with_certain (takes (Some h))) ps (λ q has. ap (λ b. q.certain || b) (agree q has)),
          filter_same (takes (Some k)) (takes (Some h)) ps agree,
        )

tried_is_allowed : (ps : List Pair) (c : Cut) → IsTried ps c → IsAllowed ps c
tried_is_allowed ps None t = t
tried_is_allowed ps (Some h) t = takes_rows ps h t

tried_is_reached : (ps : List Pair) (c : Cut) → IsTried ps c → IsReached ps c
tried_is_reached ps None t = tt
tried_is_reached ps (Some h) t = t

taken_if_equal : (a b : Choice) → Beats a b → (b.sum *ℤ pos a.rows) ≡ (a.sum *ℤ pos b.rows) → a.taken ≤ b.taken
taken_if_equal a b (inl l) e = absurd (omega (arith, ints))
taken_if_equal a b (inr (same, few)) e = few

best_is_high_end : (ps : List Pair) (c : Cut) → IsBestCut ps c → IsHighEnd ps (choice_of ps c)
best_is_high_end ps c best = record {
  allowed = tried_is_allowed ps c best.tried;
  choice = refl;
  reached = tried_is_reached ps c best.tried;
  greatest = λ d allowed. (let like = allowed_is_tried ps d allowed in
      subst (λ (qs : List Pair). (total (highs qs) *ℤ pos (choice_of ps c).rows) ≤ℤ ((choice_of ps c).sum *ℤ pos (length qs))) like.2
      (at_most_beaten (choice_of ps c) (choice_of ps like.0) (best.beats like.0 like.1)));
  fewest = λ d allowed same. (let like = allowed_is_tried ps d allowed in
      subst (λ (qs : List Pair). (choice_of ps c).taken ≤ length qs) like.3
      (taken_if_equal (choice_of ps c) (choice_of ps like.0) (best.beats like.0 like.1)
      (subst (λ (qs : List Pair). (total (highs qs) *ℤ pos (choice_of ps c).rows) ≡ ((choice_of ps c).sum *ℤ pos (length qs))) (sym like.2) same)));
}

pub high_ends_are_best : (ps : List Pair) → ps ≢ [] → IsHighEnd ps (high_end ps)
high_ends_are_best [] some = absurd (some refl)
high_ends_are_best (p ∷ ps) some =
    let found = best_cut p ps in
    subst (IsHighEnd (p ∷ ps)) (sym found.1.best) (best_is_high_end (p ∷ ps) found.0 found.1)

-- ---- which choices are the high end

-- the second cut takes each row that the first takes, and this one besides
record TakesMore (ps : List Pair) (c d : Cut) : Type 0 where
  row : Pair
  stands : HasPair row ps
  taken : IsTrue (takes d row)
  left : IsFalse (takes c row)
  all : (q : Pair) → IsTrue (takes c q) → IsTrue (takes d q)

more_than_none : (ps : List Pair) (h : ℤ) → IsReached ps (Some h) → TakesMore ps None (Some h)
more_than_none ps h t =
    let row = row_of_cut ps h t in
    record { row = row.0; stands = row.1; taken = takes_own row.0 h row.2 row.3; left = refl; all = λ q w. absurd (false≢true w) }

more_below : (ps : List Pair) (h k : ℤ) → IsReached ps (Some h) → h <ℤ k → TakesMore ps (Some k) (Some h)
more_below ps h k t l =
    let row = row_of_cut ps h t in
    record { row = row.0; stands = row.1; taken = takes_own row.0 h row.2 row.3; left = takes_not_below row.0 h k row.3 l; all = λ q w. takes_more q h k (omega (arith, ints)) w }

compared : (ps : List Pair) (c d : Cut) → IsTried ps c → IsTried ps d → (c ≡ d) ⊎ (TakesMore ps c d ⊎ TakesMore ps d c)
compared ps None None s t = inl refl
compared ps None (Some k) s t = inr (inl (more_than_none ps k t))
compared ps (Some h) None s t = inr (inr (more_than_none ps h s))
compared ps (Some h) (Some k) s t = elim (cases_Bool (int_lt h k)) [
  | inl b ↦ inr (inr (more_below ps h k s (lt_holds h k b)))
  | inr b ↦ elim (cases_Bool (int_lt k h)) [
    | inl w ↦ inr (inl (more_below ps k h t (lt_holds k h w)))
    | inr w ↦ (let same : h ≡ k = omega (arith, ints) in inl (ap (λ x. Some x) same))
  ]
]

less_or_equal : (l r : ℤ) (i j : ℕ) → l ≤ℤ r → i < j → (l <ℤ r) ⊎ ((l ≡ r) × (i < j))
less_or_equal l r i j h t = elim (cases_Bool (int_lt l r)) [ inl b ↦ inl (lt_holds l r b) | inr b ↦ inr (omega (arith, ints), t) ]

-- what no choice exceeds, where each that takes less has a smaller average
dominates : (ps : List Pair) (c : Cut) → IsTried ps c →
    gain (choice_of ps c).sum (choice_of ps c).rows (with_certain (is_above (choice_of ps c).sum (choice_of ps c).rows)) ps ≤ℤ pos 0 →
    ((d : Cut) → IsTried ps d → TakesMore ps d c → ((choice_of ps d).sum *ℤ pos (choice_of ps c).rows) <ℤ ((choice_of ps c).sum *ℤ pos (choice_of ps d).rows)) →
    high_end ps ≡ choice_of ps c
dominates ps c t top less =
    best_is (choices ps (cuts_of ps)) (choice_of ps c) (all_allowed ps) (choice_stands ps (cuts_of ps) c (tried_is_cut ps c t)) wins
  where
    s : ℤ
    s = (choice_of ps c).sum

    n : ℕ
    n = (choice_of ps c).rows

    against : (d : Cut) → IsTried ps d → (choice_of ps d ≡ choice_of ps c) ⊎ BeatsStrictly (choice_of ps c) (choice_of ps d)
    against d u = elim (compared ps c d t u) [
      | inl e ↦ inl (ap (choice_of ps) (sym e))
      | inr (inl more) ↦ (let most = exchange (choice_of ps c).sum (choice_of ps c).rows (takes d) ps in
          let is = gain-is (choice_of ps c).sum (choice_of ps c).rows (with_certain (takes d)) ps in
          let few = subset_counts_strictly (takes c) (takes d) ps more.row (λ q has w. more.all q w) more.stands more.taken more.left in
          inr (less_or_equal ((choice_of ps d).sum *ℤ pos (choice_of ps c).rows) ((choice_of ps c).sum *ℤ pos (choice_of ps d).rows) (choice_of ps c).taken (choice_of ps d).taken (omega (arith, ints)) few))
      | inr (inr fewer) ↦ inr (inl (less d u fewer))
    ]

    wins : (x : Choice) → HasChoice x (choices ps (cuts_of ps)) → (x ≡ choice_of ps c) ⊎ BeatsStrictly (choice_of ps c) x
    wins x has =
        let found = cut_of_choice ps (cuts_of ps) x has in
        subst (λ y. (y ≡ choice_of ps c) ⊎ BeatsStrictly (choice_of ps c) y) (sym found.2) (against found.0 (cut_is_tried ps found.0 found.1))

-- a choice that takes exactly the uncertain rows above its own average
pub fixed_is_high_end : (ps : List Pair) (c : Cut) → IsTried ps c →
    ((q : Pair) → HasPair q ps → takes c q ≡ is_above (choice_of ps c).sum (choice_of ps c).rows q) → high_end ps ≡ choice_of ps c
fixed_is_high_end ps c t agree =
    let s = (choice_of ps c).sum in
    let n = (choice_of ps c).rows in
    let same = filter_same (with_certain (takes c)) (with_certain (is_above s n)) ps (λ q has. ap (λ b. q.certain || b) (agree q has)) in
    let zero : gain s n (with_certain (is_above s n)) ps ≡ pos 0 =
    gain-is s n (with_certain (is_above s n)) ps ∙ ap (λ (qs : List Pair). (total (highs qs) *ℤ pos n) -ℤ (s *ℤ pos (length qs))) (sym same) ∙ omega (arith, ints) in
    dominates ps c t (omega (arith, ints))
    (λ d u fewer. let below = exchange_strictly s n (takes d) ps fewer.row fewer.stands (sym (agree fewer.row fewer.stands) ∙ fewer.taken) fewer.left in
    let is = gain-is s n (with_certain (takes d)) ps in omega (arith, ints))

-- where no row is certain, that of the greatest high
pub greatest_is_high_end : (ps : List Pair) (h : ℤ) → IsReached ps (Some h) → IsFalse (some_certain ps) → ((q : Pair) → HasPair q ps → q.high ≤ℤ h) →
    high_end ps ≡ choice_of ps (Some h)
greatest_is_high_end ps h t none most =
    dominates ps (Some h) t (omega (arith, ints, zero)) (λ d u fewer. absurd (not_fewer d u fewer))
  where
    s : ℤ
    s = (choice_of ps (Some h)).sum

    n : ℕ
    n = (choice_of ps (Some h)).rows

    at_least : (f : Pair → Bool) (qs : List Pair) → ((q : Pair) → HasPair q qs → IsTrue (f q) → h ≤ℤ q.high) → (h *ℤ pos (length (filter f qs))) ≤ℤ total (highs (filter f qs))
    at_least f [] w = omega (arith, ints)
    at_least f (q ∷ qs) w =
        let rest = at_least f qs (λ r has. w r (inr has)) in
        elim (cases_Bool (f q)) [
          | inl b ↦ rw b (let first = w q (inl refl) b in let more = times_suc h (length (filter f qs)) in omega (arith, ints))
          | inr b ↦ rw b rest
        ]

    taken_above : (c : Bool) (x : ℤ) → IsFalse c → IsTrue (c || (not c && int_le h x)) → h ≤ℤ x
    taken_above true x f w = absurd (true≢false f)
    taken_above false x f w = le_holds h x w

    sum_above : (h *ℤ pos n) ≤ℤ s
    sum_above = at_least (with_certain (takes (Some h))) ps (λ q has w. taken_above q.certain q.high (not_certain ps none q has) w)

    not_above : (c b : Bool) → IsFalse b → IsFalse (not c && b)
    not_above true b f = refl
    not_above false b f = f

    zero : gain s n (with_certain (is_above s n)) ps ≡ pos 0
    zero = no_gain s n (with_certain (is_above s n)) ps
        (λ q has. neither q.certain (is_above s n q) (not_certain ps none q has)
        (not_above q.certain (int_lt s (q.high *ℤ pos n)) (not_lt s (q.high *ℤ pos n) (let up = times_pos q.high h n (most q has) in let sum = sum_above in omega (arith, ints)))))

    not_fewer : (d : Cut) → IsTried ps d → TakesMore ps d (Some h) → ⊥
    not_fewer None u fewer = true≢false (sym u ∙ none)
    not_fewer (Some k) u fewer =
        let row = row_of_cut ps k u in
        let under = most row.0 row.1 in
        let is = row.3 in
        let taken = takes_more fewer.row k h (omega (arith, ints)) fewer.taken in
        true≢false (sym taken ∙ fewer.left)

-- the high end has a cut exactly where it takes rows
pub high_cut_of : (ps : List Pair) → IsCutOf (high_end ps).cut (high_end ps).taken
high_cut_of [] = refl
high_cut_of (p ∷ ps) =
    let best = best_cut p ps in
    subst (λ (e : Choice). IsCutOf e.cut e.taken) (sym best.1.best) (by_cut best.0 best.1.tried)
  where
    by_cut : (c : Cut) → IsTried (p ∷ ps) c → IsCutOf c (choice_of (p ∷ ps) c).taken
    by_cut None t = ap length (none_counted (takes None) (p ∷ ps) (λ q has. refl))
    by_cut (Some h) t = takes_rows (p ∷ ps) h t
