-- Dropping the uncertain rows that do not lie above the average of the others, until none is dropped, gives the high end.
use Rattle.std.proofs.Common.{◌≡◌, ℕ, zero, suc, ◌+◌, ◌≤◌, ℤ, pos, ◌*ℤ◌, ◌-ℤ◌, ◌≤ℤ◌, ◌<ℤ◌, int_lt, int_le, Bool, true, false, cond, not, ◌&&◌, ◌||◌, List, [], ◌∷◌, length, inl, inr, refl, arith, filter, filter_map, IsTrue, IsFalse, Option, Some, None, subst, sym, ap, ◌∙◌}
use Rattle.std.specs.List.{cons_option, range_with_len}
use Rattle.std.proofs.lemmas.Bool.{cond_both, cases_Bool, false≢true, true≢false}
use Rattle.std.proofs.lemmas.Int.{ints}
use Rattle.interval_calc.specs.declared.Fraction.{Fraction}
use Rattle.query_model.specs.Answers.{total}
use Rattle.query_model.specs.Bounds.{Pair, highs, some_certain}
use Rattle.std.specs.Ordering.{int_eq}
use Rattle.query_model.proofs.Integers.{times_pos, when_equal}
use Rattle.round_engine.specs.Stages.{Stage}
use Rattle.avg_exact.specs.declared.passes.End.{End}
use Rattle.avg_exact.specs.declared.passes.Tally.{Tally}
use Rattle.avg_exact.specs.ExactAverages.{Choice, Cut, IsReached, choice_of, high_end, rows_counted, rows_taken, takes}
use Rattle.avg_exact.specs.Passes.{all_rows, greatest_high, greatest_of, is_counted, is_taken, least_of, least_taken, seen_at, taken_value, tally_of, value_of}
use Rattle.avg_exact.proofs.Fractions.{at_most_less_trans}
use Rattle.avg_exact.proofs.Gains.{HasPair, exchange, filter_same, gain-is, is_above, subset_counts, subset_counts_strictly, with_certain}
use Rattle.avg_exact.proofs.Cuts.{IsLeastUp, IsTried, IsUpward, any_of, counts_some, found_any, join_uncertain, least_is_reached, least_up, least_up-is, lesser, le_holds, lt_holds, lt_is, not_lt, some_counted, takes-least}
use Rattle.avg_exact.proofs.HighEnds.{fixed_is_high_end, greatest_is_high_end}

-- ---- numbers of rows

filtered_few : (test : Pair → Bool) (ps : List Pair) → length (filter test ps) ≤ length ps
filtered_few test [] = omega arith
filtered_few test (p ∷ ps) =
    let rest = filtered_few test ps in
    cond_both (test p) (p ∷ filter test ps) (filter test ps) (λ qs. length qs ≤ suc (length ps)) (λ _. omega arith) (λ _. omega arith)

one_more : (o : Option Pair) (ps : List Pair) (n : ℕ) → length ps ≤ n → length (cons_option o ps) ≤ suc n
one_more None ps n h = omega arith
one_more (Some p) ps n h = omega arith

given_few : (give : ℕ → Option Pair) (a n : ℕ) → length (filter_map give (range_with_len a n)) ≤ n
given_few give a zero = omega arith
given_few give a (suc n) = one_more (give a) (filter_map give (range_with_len (a + 1) n)) n (given_few give (a + 1) n)

pub counted_few : (stage : Stage) (item : ℕ) (end : End) (over : Option Fraction) → (tally_of over (all_rows stage item end)).rows ≤ stage.frame.rows
counted_few stage item end over =
    let one = filtered_few (is_counted over) (all_rows stage item end) in
    let two = given_few (seen_at stage item end) 0 stage.frame.rows in
    omega arith

certain_is_counted : (c b : Bool) → IsTrue (c || false) → IsTrue (c || b)
certain_is_counted true b t = refl
certain_is_counted false b t = absurd (false≢true t)

-- the certain rows are always counted
pub certain_rows_counted : (over : Option Fraction) (ps : List Pair) → (tally_of None ps).rows ≤ (tally_of over ps).rows
certain_rows_counted over ps = subset_counts (is_counted None) (is_counted over) ps (λ q has t. certain_is_counted q.certain (is_taken over q) t)

-- ---- a pass at the average of a tally

-- a fraction is the average of a tally
pub record IsMean (f : Fraction) (over : Option Fraction) (ps : List Pair) : Type 0 where
  pub num : f.num ≡ (tally_of over ps).sum
  pub den : f.den ≡ (tally_of over ps).rows

-- the average does not fall
pub mean_rises : (over : Option Fraction) (f : Fraction) (ps : List Pair) → IsMean f over ps →
    (f.num *ℤ pos (tally_of (Some f) ps).rows) ≤ℤ ((tally_of (Some f) ps).sum *ℤ pos f.den)
mean_rises over f ps mean =
    let most = exchange f.num f.den (is_taken over) ps in
    let first = gain-is f.num f.den (with_certain (is_taken over)) ps in
    let second = gain-is f.num f.den (with_certain (is_above f.num f.den)) ps in
    let zero : (tally_of over ps).sum *ℤ pos f.den ≡ f.num *ℤ pos (tally_of over ps).rows =
    ap (λ s. s *ℤ pos f.den) (sym mean.num) ∙ ap (λ n. f.num *ℤ pos n) mean.den in
    omega (arith, ints)

-- so a row above the new average lies above the old one
above_both : (over f : Fraction) → 1 ≤ over.den → (over.num *ℤ pos f.den) ≤ℤ (f.num *ℤ pos over.den) → (q : Pair) → IsTrue (is_taken (Some f) q) → IsTrue (is_taken (Some over) q)
above_both over f some rises q t = both q.certain q.high t
  where
    both : (c : Bool) (x : ℤ) → IsTrue (not c && int_lt f.num (x *ℤ pos f.den)) → IsTrue (not c && int_lt over.num (x *ℤ pos over.den))
    both true x t = absurd (false≢true t)
    both false x t =
        let above = lt_holds f.num (x *ℤ pos f.den) t in
        let once = at_most_less_trans over.num f.num x over.den f.den 1 some rises (omega (arith, ints)) in
        lt_is over.num (x *ℤ pos over.den) (omega (arith, ints))

-- and no more rows are taken
pub taken_falls : (over f : Fraction) (ps : List Pair) → 1 ≤ over.den → (over.num *ℤ pos f.den) ≤ℤ (f.num *ℤ pos over.den) → (tally_of (Some f) ps).taken ≤ (tally_of (Some over) ps).taken
taken_falls over f ps some rises = subset_counts (is_taken (Some f)) (is_taken (Some over)) ps (λ q has t. above_both over f some rises q t)

-- where as many are, they are the same
same_taken : (over f : Fraction) (ps : List Pair) → 1 ≤ over.den → (over.num *ℤ pos f.den) ≤ℤ (f.num *ℤ pos over.den) →
    (tally_of (Some f) ps).taken ≡ (tally_of (Some over) ps).taken → (q : Pair) → HasPair q ps → is_taken (Some over) q ≡ is_taken (Some f) q
same_taken over f ps some rises e q has = elim (cases_Bool (is_taken (Some f) q)) [
  | inl t ↦ above_both over f some rises q t ∙ sym t
  | inr under ↦ elim (cases_Bool (is_taken (Some over) q)) [
    | inl t ↦ (let fewer = subset_counts_strictly (is_taken (Some f)) (is_taken (Some over)) ps q (λ q has t. above_both over f some rises q t) has t under in absurd (omega (arith, fewer, e)))
    | inr f' ↦ f' ∙ sym under
  ]
]

-- ---- the least row that is taken

least_lesser : (x : ℤ) (c : Cut) → least_of (Some x) c ≡ lesser x c
least_lesser x None = refl
least_lesser x (Some y) = refl

least-is : (over : Fraction) (ps : List Pair) → least_taken over ps ≡ least_up (λ x. int_lt over.num (x *ℤ pos over.den)) ps
least-is over [] = refl
least-is over (p ∷ ps) =
    ap (least_of (taken_value over (Some (value_of p)))) (least-is over ps)
    ∙ by_test (is_taken (Some over) p) (least_up (λ x. int_lt over.num (x *ℤ pos over.den)) ps)
  where
    by_test : (b : Bool) (c : Cut) → least_of (cond b (Some p.high) None) c ≡ cond b (lesser p.high c) c
    by_test true c = least_lesser p.high c
    by_test false c = refl

above_upward : (over : Fraction) → IsUpward (λ x. int_lt over.num (x *ℤ pos over.den))
above_upward over x y h t = (let more = times_pos x y over.den h in let less = lt_holds over.num (x *ℤ pos over.den) t in lt_is over.num (y *ℤ pos over.den) (omega (arith, ints)))

-- the choice of the rows above a fraction
abbrev pub choice_above : Fraction → List Pair → Choice
choice_above over ps = record { cut = least_taken over ps; sum = (tally_of (Some over) ps).sum; rows = (tally_of (Some over) ps).rows; taken = (tally_of (Some over) ps).taken }

cut_takes : (over : Fraction) (ps : List Pair) (q : Pair) → HasPair q ps → takes (least_taken over ps) q ≡ is_taken (Some over) q
cut_takes over ps q has =
    ap (λ c. takes c q) (least-is over ps)
    ∙ takes-least (λ x. int_lt over.num (x *ℤ pos over.den)) ps (least_up (λ x. int_lt over.num (x *ℤ pos over.den)) ps) (above_upward over)
    (least_up-is (λ x. int_lt over.num (x *ℤ pos over.den)) ps) q has

same_choice : (c : Cut) (qs qs' rs rs' : List Pair) → qs ≡ qs' → rs ≡ rs' →
    ◌≡◌ {A = Choice} (record { cut = c; sum = total (highs qs); rows = length qs; taken = length rs }) (record { cut = c; sum = total (highs qs'); rows = length qs'; taken = length rs' })
same_choice c qs qs' rs rs' e f =
    ap (λ xs. choice xs rs) e ∙ ap (choice qs') f
  where
    choice : List Pair → List Pair → Choice
    choice xs ys = record { cut = c; sum = total (highs xs); rows = length xs; taken = length ys }

pub choice-above : (over : Fraction) (ps : List Pair) → choice_of ps (least_taken over ps) ≡ choice_above over ps
choice-above over ps =
    same_choice (least_taken over ps) (rows_counted (least_taken over ps) ps) (filter (is_counted (Some over)) ps) (rows_taken (least_taken over ps) ps) (filter (is_taken (Some over)) ps)
    (filter_same (with_certain (takes (least_taken over ps))) (is_counted (Some over)) ps (λ q has. ap (λ b. q.certain || b) (cut_takes over ps q has)))
    (filter_same (takes (least_taken over ps)) (is_taken (Some over)) ps (cut_takes over ps))

some_is_certain : (ps : List Pair) → 1 ≤ (tally_of None ps).rows → IsTrue (some_certain ps)
some_is_certain ps h =
    let row = some_counted (is_counted None) ps h in
    any_of (λ p. p.certain) ps row.0 row.1 (certain_part row.0.certain row.2)
  where
    certain_part : (c : Bool) → IsTrue (c || false) → IsTrue c
    certain_part true t = refl
    certain_part false t = t

tried : (over : Fraction) (ps : List Pair) → 1 ≤ (tally_of None ps).rows → IsTried ps (least_taken over ps)
tried over ps some = subst (IsTried ps) (sym (least-is over ps)) (by_cut (least_up above ps) (least_up-is above ps))
  where
    above : ℤ → Bool
    above x = int_lt over.num (x *ℤ pos over.den)

    by_cut : (c : Cut) → IsLeastUp above ps c → IsTried ps c
    by_cut None found = some_is_certain ps some
    by_cut (Some h) found = least_is_reached above ps h found

-- where a pass drops no row, its rows are the high end
pub search_ends : (over f : Fraction) (ps : List Pair) → 1 ≤ (tally_of None ps).rows → 1 ≤ over.den → IsMean f (Some over) ps →
    (over.num *ℤ pos f.den) ≤ℤ (f.num *ℤ pos over.den) → (tally_of (Some f) ps).taken ≡ (tally_of (Some over) ps).taken →
    choice_above over ps ≡ high_end ps
search_ends over f ps certain some mean rises same =
    let cut = least_taken over ps in
    let is = choice-above over ps in
    let sum : (choice_of ps cut).sum ≡ f.num = ap (λ (c : Choice). c.sum) is ∙ sym mean.num in
    let rows : (choice_of ps cut).rows ≡ f.den = ap (λ (c : Choice). c.rows) is ∙ sym mean.den in
    sym (fixed_is_high_end ps cut (tried over ps certain)
    (λ q has. cut_takes over ps q has ∙ same_taken over f ps some rises same q has
    ∙ ap (λ s. is_above s f.den q) (sym sum) ∙ ap (λ n. is_above (choice_of ps cut).sum n q) (sym rows))
    ∙ is)

-- ---- no certain row

abbrev IsGreatest : List Pair → Cut → Type 0
IsGreatest ps None = ps ≡ []
IsGreatest ps (Some g) = ((q : Pair) × HasPair q ps × (q.high ≡ g)) × ((q : Pair) → HasPair q ps → q.high ≤ℤ g)

greatest_of_more : (p : Pair) (ps : List Pair) (c : Cut) → IsGreatest ps c → IsGreatest (p ∷ ps) (greatest_of (Some p.high) c)
greatest_of_more p ps None e = ((p, inl refl, refl), λ q has. only q has)
  where
    only : (q : Pair) → HasPair q (p ∷ ps) → q.high ≤ℤ p.high
    only q (inl i) = subst (λ r. r.high ≤ℤ p.high) (sym i) (omega (arith, ints))
    only q (inr has) = absurd (subst (HasPair q) e has)
greatest_of_more p ps (Some g) (row, all) =
    cond_both (int_lt g p.high) p.high g (λ h. IsGreatest (p ∷ ps) (Some h))
    (λ t. (
      (p, inl refl, refl),
      λ q has. elim has [
        | inl i ↦ subst (λ r. r.high ≤ℤ p.high) (sym i) (omega (arith, ints))
        | inr has' ↦ (let under = all q has' in omega (arith, ints))
      ],
    ))
    (λ f. (
      (row.0, inr row.1, row.2),
      λ q has. elim has [
        | inl i ↦ subst (λ r. r.high ≤ℤ g) (sym i) (omega (arith, ints))
        | inr has' ↦ all q has'
      ],
    ))

greatest-is : (ps : List Pair) → IsGreatest ps (greatest_high ps)
greatest-is [] = refl
greatest-is (p ∷ ps) = greatest_of_more p ps (greatest_high ps) (greatest-is ps)

pub no_greatest : (ps : List Pair) → greatest_high ps ≡ None → high_end ps ≡ record { cut = None; sum = pos 0; rows = 1; taken = 0 }
no_greatest ps e = ap high_end (subst (IsGreatest ps) e (greatest-is ps))

none_certain : (ps : List Pair) → (tally_of None ps).rows ≡ 0 → IsFalse (some_certain ps)
none_certain ps e = elim (cases_Bool (some_certain ps)) [ inl t ↦ absurd (omega (arith, e, counted t)) | inr f ↦ f ]
  where
    or_false : (c : Bool) → IsTrue c → IsTrue (c || false)
    or_false true t = refl
    or_false false t = t

    by_row : (q : Pair) × HasPair q ps × IsTrue q.certain → 1 ≤ (tally_of None ps).rows
    by_row (q, has, t) = counts_some (is_counted None) ps q has (or_false q.certain t)

    counted : IsTrue (some_certain ps) → 1 ≤ (tally_of None ps).rows
    counted t = by_row (found_any (λ p. p.certain) ps t)

all_uncertain : (ps : List Pair) → IsFalse (some_certain ps) → (q : Pair) → HasPair q ps → IsFalse q.certain
all_uncertain ps f q has = elim (cases_Bool q.certain) [ inl t ↦ absurd (true≢false (sym (any_of (λ p. p.certain) ps q has t) ∙ f)) | inr w ↦ w ]

-- the rows of the greatest value
pub greatest_ends : (f : Fraction) (ps : List Pair) (g : ℤ) → (tally_of None ps).rows ≡ 0 → greatest_high ps ≡ Some g → f.num ≡ g -ℤ pos 1 → f.den ≡ 1 →
    record { cut = Some g; sum = (tally_of (Some f) ps).sum; rows = (tally_of (Some f) ps).rows; taken = (tally_of (Some f) ps).taken } ≡ high_end ps
greatest_ends f ps g none e num den =
    let found : IsGreatest ps (Some g) = subst (IsGreatest ps) e (greatest-is ps) in
    let row = found.0 in
    let uncertain = none_certain ps none in
    let reached : IsReached ps (Some g) = any_of (λ p. not p.certain && int_eq p.high g) ps row.0 row.1
    (join_uncertain row.0.certain (int_eq row.0.high g) (all_uncertain ps uncertain row.0 row.1) (when_equal row.0.high g row.2)) in
    sym (greatest_is_high_end ps g reached uncertain found.1
    ∙ same_choice (Some g) (rows_counted (Some g) ps) (filter (is_counted (Some f)) ps) (rows_taken (Some g) ps) (filter (is_taken (Some f)) ps)
    (filter_same (with_certain (takes (Some g))) (is_counted (Some f)) ps (λ q has. ap (λ b. q.certain || b) (agrees q)))
    (filter_same (takes (Some g)) (is_taken (Some f)) ps (λ q has. agrees q)))
  where
    at_least : (x : ℤ) → int_le g x ≡ int_lt f.num (x *ℤ pos f.den)
    at_least x =
        let once : x *ℤ pos f.den ≡ x = ap (λ n. x *ℤ pos n) den ∙ omega (arith, ints) in
        elim (cases_Bool (int_le g x)) [
          | inl t ↦ (let above = le_holds g x t in t ∙ sym (lt_is f.num (x *ℤ pos f.den) (omega (arith, ints))))
          | inr less ↦ (let below : x <ℤ g = omega (arith, ints) in less ∙ sym (not_lt f.num (x *ℤ pos f.den) (omega (arith, ints))))
        ]

    agrees : (q : Pair) → takes (Some g) q ≡ is_taken (Some f) q
    agrees q = ap (λ b. not q.certain && b) (at_least q.high)

pub greatest_counts : (f : Fraction) (ps : List Pair) (g : ℤ) → (tally_of None ps).rows ≡ 0 → greatest_high ps ≡ Some g → f.num ≡ g -ℤ pos 1 → f.den ≡ 1 →
    1 ≤ (tally_of (Some f) ps).rows
greatest_counts f ps g none e num den =
    let found : IsGreatest ps (Some g) = subst (IsGreatest ps) e (greatest-is ps) in
    let row = found.0 in
    let high = row.2 in
    let once : row.0.high *ℤ pos f.den ≡ row.0.high = ap (λ n. row.0.high *ℤ pos n) den ∙ omega (arith, ints) in
    let above = lt_is f.num (row.0.high *ℤ pos f.den) (omega (arith, ints)) in
    counts_some (is_counted (Some f)) ps row.0 row.1
    (counted row.0.certain (join_uncertain row.0.certain (int_lt f.num (row.0.high *ℤ pos f.den)) (all_uncertain ps (none_certain ps none) row.0 row.1) above))
  where
    counted : (c : Bool) {b : Bool} → IsTrue b → IsTrue (c || b)
    counted true t = refl
    counted false t = t

-- ---- the steps of the search

pub mean_of : (f : Fraction) (t : Tally) (over : Option Fraction) (ps : List Pair) → t ≡ tally_of over ps → f.num ≡ t.sum → f.den ≡ t.rows → IsMean f over ps
mean_of f t over ps e num den = record { num = num ∙ ap (λ (u : Tally). u.sum) e; den = den ∙ ap (λ (u : Tally). u.rows) e }

pub mean_few : (stage : Stage) (item : ℕ) (end : End) (over : Option Fraction) (f : Fraction) → IsMean f over (all_rows stage item end) → f.den ≤ stage.frame.rows
mean_few stage item end over f mean = (let few = counted_few stage item end over in let den = mean.den in omega arith)

pub rises_to : (over : Option Fraction) (f : Fraction) (ps : List Pair) (t : Tally) → IsMean f over ps → t ≡ tally_of (Some f) ps → (f.num *ℤ pos t.rows) ≤ℤ (t.sum *ℤ pos f.den)
rises_to over f ps t mean e = subst (λ (u : Tally). (f.num *ℤ pos u.rows) ≤ℤ (u.sum *ℤ pos f.den)) (sym e) (mean_rises over f ps mean)

pub still_some : (certain : Tally) (over : Option Fraction) (ps : List Pair) (t : Tally) → certain ≡ tally_of None ps → 1 ≤ certain.rows → t ≡ tally_of over ps → 1 ≤ t.rows
still_some certain over ps t c some e =
    let more = certain_rows_counted over ps in
    let first = ap (λ (u : Tally). u.rows) c in
    let second = ap (λ (u : Tally). u.rows) e in
    omega arith

-- a pass at the average of the best tally so far
pub record IsPass (over f : Fraction) (best next : Tally) (ps : List Pair) : Type 0 where
  pub best_is : best ≡ tally_of (Some over) ps
  pub next_is : next ≡ tally_of (Some f) ps
  pub num : f.num ≡ best.sum
  pub den : f.den ≡ best.rows
  pub rises : (over.num *ℤ pos best.rows) ≤ℤ (best.sum *ℤ pos over.den)

rises_at : (over f : Fraction) (best next : Tally) (ps : List Pair) → IsPass over f best next ps → (over.num *ℤ pos f.den) ≤ℤ (f.num *ℤ pos over.den)
rises_at over f best next ps p =
    subst (λ n. (over.num *ℤ pos n) ≤ℤ (f.num *ℤ pos over.den)) (sym p.den) (subst (λ s. (over.num *ℤ pos best.rows) ≤ℤ (s *ℤ pos over.den)) (sym p.num) p.rises)

pub taken_shrinks : (over f : Fraction) (best next : Tally) (ps : List Pair) → 1 ≤ over.den → IsPass over f best next ps → next.taken ≤ best.taken
taken_shrinks over f best next ps some p =
    let fewer = taken_falls over f ps some (rises_at over f best next ps p) in
    let first = ap (λ (u : Tally). u.taken) p.best_is in
    let second = ap (λ (u : Tally). u.taken) p.next_is in
    omega arith

pub search_is_done : (over f : Fraction) (certain best next : Tally) (ps : List Pair) → 1 ≤ over.den → IsPass over f best next ps →
    certain ≡ tally_of None ps → 1 ≤ certain.rows → next.taken ≡ best.taken →
    record { cut = least_taken over ps; sum = best.sum; rows = best.rows; taken = best.taken } ≡ high_end ps
search_is_done over f certain best next ps some p c certain_some same =
    ap (λ (u : Tally). record { cut = least_taken over ps; sum = u.sum; rows = u.rows; taken = u.taken }) p.best_is
    ∙ search_ends over f ps (subst (λ (u : Tally). 1 ≤ u.rows) c certain_some) some (mean_of f best (Some over) ps p.best_is p.num p.den) (rises_at over f best next ps p)
    (sym (ap (λ (u : Tally). u.taken) p.next_is) ∙ same ∙ ap (λ (u : Tally). u.taken) p.best_is)

-- choices with the same numbers
pub same_numbers : (c c' : Cut) (s s' : ℤ) (n t : ℕ) → c ≡ c' → s ≡ s' →
    ◌≡◌ {A = Choice} (record { cut = c; sum = s; rows = n; taken = t }) (record { cut = c'; sum = s'; rows = n; taken = t })
same_numbers c c' s s' n t e f = ap (λ d. choice d s) e ∙ ap (choice c') f
  where
    choice : Cut → ℤ → Choice
    choice d z = record { cut = d; sum = z; rows = n; taken = t }
